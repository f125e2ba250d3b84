-- Sides of pairs and calls: marked symbols with arguments, extended and filtered.
use Rattle.std.proofs.Common.{◌≡◌, ℕ, suc, inl, inr, List, [], ◌∷◌, ◌++◌, map, refl, ap, ap₂, ◌∙◌, sym, subst, Some, slice_get, append-nil}
use Rattle.std.specs.List.{AllByRecursion}
use Rattle.wh_types.specs.Ty.{Ty, sort, SortsBelow}
use Rattle.wh_terms.specs.Tree.{Tm, fun, app, tms_of, spine}
use Rattle.wh_terms.specs.Sight.{Occurs, OccursIn, NoFree}
use Rattle.wh_terms.specs.Pattern.{IsPatternUnder}
use Rattle.wh_terms.specs.Typing.{Symbols, Declared, Typed, AllTyped, typed_more}
use Rattle.wh_terms.specs.Value.{Body}
use Rattle.wh_terms.specs.TypedBodies.{parameter_types, FitsDeclared, TypedBodies}
use Rattle.wh_terms.specs.StepOver.{StepOver}
use Rattle.wh_terms.proofs.ValueForm.{value}
use Rattle.wh_terms.proofs.ValueTyping.{typed-value}
use Rattle.wh_step_laws.specs.RootRelations.{KnowsSorts}
use Rattle.wh_step_laws.proofs.Fundamental.{KnownTypes, known_more}
use Rattle.wh_order_inference.specs.Filters.{Filter}
use Rattle.wh_order_extended.specs.Many.{Many}
use Rattle.wh_order_extended.specs.Kinds.{KnowsMetas, KnowsArguments, AreCounted}
use Rattle.wh_order_extended.specs.Long.{long}
use Rattle.wh_order_extended.specs.ExtendedSides.{marked_number, extended_call}
use Rattle.wh_order_extended.specs.Filtered.{filtered, sift, Full, Filters, FitsMark, collapsed}
use Rattle.wh_order_extended.proofs.Expand.{IsRenamed}
use Rattle.wh_order_extended.proofs.Acted.{typed_fits}
use Rattle.wh_order_extended.proofs.LongTyped.{long_typed, long_occurs}
use Rattle.wh_order_extended.proofs.LongFree.{no_free_long}
use Rattle.wh_order_extended.proofs.Sides.{args_at, args_is, params, params_is, longed, value_long}
use Rattle.wh_order_extended.proofs.Patterns.{pattern_long}
use Rattle.wh_order_extended.proofs.Fullness.{full_long, full_value}
use Rattle.wh_order_extended.proofs.SiftTyped.{Sifted, AllSifted, sift_sifted, filtered_sifted, no_free_sift}
use Rattle.wh_order_extended.proofs.SiftValues.{sifted, sift-value, filtered-value}
use Rattle.wh_order_extended.proofs.MoreMetas.{fitted}

-- the filtered trees of the arguments stand behind the head
sift-spine : (Φ : ℕ → Filter) (h : Tm) (ts qs : List Tm) → sift Φ (spine h ts) qs ≡ sift Φ h (map (λ t. sift Φ t []) ts ++ qs)
unfolding sift
sift-spine Φ h [] qs = refl
sift-spine Φ h (t ∷ ts) qs = sift-spine Φ (app h t) ts qs

-- the filtered arguments of a call
unfoldable pub filtered_arguments : Symbols → (ℕ → Filter) → List Declared → List Tm → List Tm
filtered_arguments S Φ M ts = map (λ t. sift Φ (long S M [] t) []) ts

pub call_is : (S : Symbols) (Φ : ℕ → Filter) (M : List Declared) (f : ℕ) (ts : List Tm)
    → sift Φ (extended_call S M f ts) [] ≡ filtered (Φ (marked_number S f)) (marked_number S f) (filtered_arguments S Φ M ts)
unfolding sift filtered_arguments
call_is S Φ M f ts =
    sift-spine Φ (fun (marked_number S f)) (map (long S M []) ts) []
    ∙ ap (filtered (Φ (marked_number S f)) (marked_number S f)) (append-nil (map (λ t. sift Φ t []) (map (long S M []) ts)) ∙ twice ts)
  where
    twice : (ts : List Tm) → map (λ t. sift Φ t []) (map (long S M []) ts) ≡ map (λ t. sift Φ (long S M [] t) []) ts
    twice [] = refl
    twice (t ∷ ts) = ap (λ l. sift Φ (long S M [] t) [] ∷ l) (twice ts)

known_parameters : (S : Symbols) (cs Γ : List Ty) → ((i : ℕ) (c : Ty) → slice_get cs i ≡ Some c → SortsBelow S.sorts c) → KnownTypes S Γ → KnownTypes S (parameter_types cs Γ)
known_parameters S [] Γ h k = k
known_parameters S (c ∷ cs) Γ h k = known_parameters S cs (c ∷ Γ) (λ i d e. h (suc i) d e) (known_more S Γ c (h 0 c refl) k)

module _ (S : Symbols) (known : KnowsSorts S) (M : List Declared) (metas : KnowsMetas S M) where
  no_types : KnownTypes S []
  no_types i b e = absurd (cc)

  -- extended arguments
  extended_argument : (t : Tm) (c : Ty) → Typed S M [] t c → Typed S M [] (long S M [] t) c
  extended_argument t c p = long_typed S M known metas no_types p

  module _ (F : Symbols) (Φ : ℕ → Filter) (into : Filters S F Φ) where
    arguments_sifted : (ts : List Tm) (cs : List Ty) → AllTyped S M [] (tms_of ts) cs → AllSifted S F Φ into (collapsed M) [] (filtered_arguments S Φ M ts) cs
    unfolding filtered_arguments
    arguments_sifted [] [] p = tt
    arguments_sifted [] (c ∷ cs) p = elim p [ ]
    arguments_sifted (t ∷ ts) [] p = elim p [ ]
    arguments_sifted (t ∷ ts) (c ∷ cs) (typed_more p ps) =
        (sift_sifted S F Φ into (extended_argument t c p) 0 (full_long S p) [] refl [] c refl tt, arguments_sifted ts cs ps)

    -- a filtered call is typed and full
    pub call_sifted : (f : ℕ) (ts : List Tm) (cs : List Ty) → FitsMark S F Φ f cs → AllTyped S M [] (tms_of ts) cs
        → Sifted S F Φ into (collapsed M) [] (sift Φ (extended_call S M f ts) []) (sort 0)
    call_sifted f ts cs m p =
        subst (λ t. Sifted S F Φ into (collapsed M) [] t (sort 0)) (sym (call_is S Φ M f ts))
        (filtered_sifted S F Φ into (collapsed M) [] (marked_number S f) (filtered_arguments S Φ M ts) cs (Φ (marked_number S f)) m.proper m.kept (arguments_sifted ts cs p))

  -- it has no free variable where the arguments have none
  pub call_closed : (Φ : ℕ → Filter) (f : ℕ) (ts : List Tm) → AllByRecursion NoFree ts → NoFree (sift Φ (extended_call S M f ts) [])
  call_closed Φ f ts n = no_free_sift Φ (extended_call S M f ts) [] (closed (fun (marked_number S f)) (map (long S M []) ts) tt (each ts n)) tt
    where
      each : (ts : List Tm) → AllByRecursion NoFree ts → AllByRecursion NoFree (map (long S M []) ts)
      each [] n = tt
      each (t ∷ ts) n = (no_free_long S M [] t n.0, each ts n.1)

      closed : (h : Tm) (us : List Tm) → NoFree h → AllByRecursion NoFree us → NoFree (spine h us)
      closed h [] k n = k
      closed h (u ∷ us) k n = closed (app h u) us (k, n.0) n.1

  module _ (arguments_known : KnowsArguments S M) (Φ : ℕ → Filter) (b : ℕ → Body) (counted : AreCounted M b) where
    abbrev h : ℕ → Body
    h = longed S M [] b

    longed_fits : (z : ℕ) (d : Declared) → slice_get M z ≡ Some d → FitsDeclared S [] [] d (b z) → FitsDeclared S [] [] d (h z)
    unfolding longed
    longed_fits z d e fit = record { counted = fit.counted; typed = subst (λ Δ. Typed S [] (parameter_types d.args []) (long S [] Δ (b z).tree) d.out) (sym scope) whole }
      where
        scope : params (b z).arity (args_at M z) [] ≡ parameter_types d.args []
        scope = ap₂ (λ n cs. params n cs []) fit.counted (args_is M z d e) ∙ params_is d.args []

        whole : Typed S [] (parameter_types d.args []) (long S [] (parameter_types d.args []) (b z).tree) d.out
        whole = long_typed S [] known (λ z d e. absurd (cc)) (known_parameters S d.args [] (arguments_known z d e) no_types) fit.typed

    longed_is_full : (z : ℕ) (d : Declared) → slice_get M z ≡ Some d → FitsDeclared S [] [] d (b z) → Full S 0 (h z).tree
    unfolding longed
    longed_is_full z d e fit = full_long S (subst (λ Δ. Typed S [] Δ (b z).tree d.out) (sym scope) fit.typed)
      where
        scope : params (b z).arity (args_at M z) [] ≡ parameter_types d.args []
        scope = ap₂ (λ n cs. params n cs []) fit.counted (args_is M z d e) ∙ params_is d.args []

    longed_counted : AreCounted M h
    unfolding longed
    longed_counted z d e = counted z d e

    -- the bodies are typed for the meta-variables that are known
    module _ (Known : ℕ → Type 0) (typed_bodies : (z : ℕ) (d : Declared) → Known z → slice_get M z ≡ Some d → FitsDeclared S [] [] d (b z)) where
      bodies_of : (t : Tm) → ((z : ℕ) → Occurs z t → Known z) → TypedBodies S M [] [] h (long S M [] t)
      bodies_of t k z d o e = longed_fits z d e (typed_bodies z d (k z (long_occurs S M z [] t o)) e)

      full_of : (t : Tm) (c : Ty) → Typed S M [] t c → ((z : ℕ) → Occurs z t → Known z) → (z : ℕ) → Occurs z (long S M [] t) → Full S 0 (h z).tree
      full_of t c p k z o =
          let q = extended_argument t c p in
          let f = fitted h z q (typed_fits h longed_counted q) o in
          longed_is_full z f.declared f.at (typed_bodies z f.declared (k z (long_occurs S M z [] t o)) f.at)

      -- the filtered argument's value is the filtered tree of the extended argument's value
      argument_value : (t : Tm) (c : Ty) → Typed S M [] t c → ((z : ℕ) → Occurs z t → Known z) → value (sifted Φ h) (sift Φ (long S M [] t) []) ≡ sift Φ (value h (long S M [] t)) []
      argument_value t c p k =
          sift-value S Φ h (full_of t c p k) (bodies_of t k) (extended_argument t c p) 0 (full_long S p) [] (inl refl)

      -- for patterns it is the filtered tree of the extended value
      pattern_value : (t : Tm) (c : Ty) → IsPatternUnder 0 t → Typed S M [] t c → ((z : ℕ) → Occurs z t → Known z) → value h (long S M [] t) ≡ long S [] [] (value b t)
      pattern_value t c q p k = pattern_long S M 0 b t q p (λ z d o e. typed_bodies z d (k z o) e) (typed_fits b counted p)

      -- the extended argument's value is typed and full, and comes to the extended value
      pub value_typed : (t : Tm) (c : Ty) → Typed S M [] t c → ((z : ℕ) → Occurs z t → Known z) → Typed S [] [] (value h (long S M [] t)) c
      value_typed t c p k = typed-value h (extended_argument t c p) (bodies_of t k)

      pub value_full : (t : Tm) (c : Ty) → Typed S M [] t c → ((z : ℕ) → Occurs z t → Known z) → Full S 0 (value h (long S M [] t))
      value_full t c p k = full_value S h (full_of t c p k) (bodies_of t k) (extended_argument t c p) 0 (inl refl) (full_long S p)

      pub value_comes : (R : Tm → Tm → Type 0) → IsRenamed R → (t : Tm) (c : Ty) → Typed S M [] t c → ((z : ℕ) → Occurs z t → Known z) → Many (StepOver R) (value h (long S M [] t)) (long S [] [] (value b t))
      value_comes R kept t c p k = value_long S M R kept b p (λ z d o e. typed_bodies z d (k z o) e) (typed_fits b counted p)

      -- the values of filtered arguments
      pub arguments_value : (ts : List Tm) (cs : List Ty) → AllTyped S M [] (tms_of ts) cs → ((z : ℕ) → OccursIn z (tms_of ts) → Known z)
          → map (value (sifted Φ h)) (filtered_arguments S Φ M ts) ≡ map (λ t. sift Φ (value h (long S M [] t)) []) ts
      unfolding filtered_arguments
      arguments_value [] cs p k = refl
      arguments_value (t ∷ ts) [] p k = elim p [ ]
      arguments_value (t ∷ ts) (c ∷ cs) (typed_more p ps) k = ap₂ (λ q qs. q ∷ qs) (argument_value t c p (λ z o. k z (inl o))) (arguments_value ts cs ps (λ z o. k z (inr o)))

      pub patterns_value : (ts : List Tm) (cs : List Ty) → AllByRecursion (IsPatternUnder 0) ts → AllTyped S M [] (tms_of ts) cs → ((z : ℕ) → OccursIn z (tms_of ts) → Known z)
          → map (λ t. sift Φ (value h (long S M [] t)) []) ts ≡ filtered_arguments S Φ [] (map (value b) ts)
      unfolding filtered_arguments
      patterns_value [] cs q p k = refl
      patterns_value (t ∷ ts) [] q p k = elim p [ ]
      patterns_value (t ∷ ts) (c ∷ cs) q (typed_more p ps) k =
          ap₂ (λ q qs. q ∷ qs) (ap (λ v. sift Φ v []) (pattern_value t c q.0 p (λ z o. k z (inl o)))) (patterns_value ts cs q.1 ps (λ z o. k z (inr o)))

      -- a filtered call's value, by those of its arguments
      pub call_value : (f : ℕ) (ts : List Tm) (cs : List Ty) → AllTyped S M [] (tms_of ts) cs → ((z : ℕ) → OccursIn z (tms_of ts) → Known z)
          → value (sifted Φ h) (sift Φ (extended_call S M f ts) []) ≡ filtered (Φ (marked_number S f)) (marked_number S f) (map (λ t. sift Φ (value h (long S M [] t)) []) ts)
      call_value f ts cs p k =
          ap (value (sifted Φ h)) (call_is S Φ M f ts)
          ∙ filtered-value (sifted Φ h) (Φ (marked_number S f)) (marked_number S f) (filtered_arguments S Φ M ts)
          ∙ ap (filtered (Φ (marked_number S f)) (marked_number S f)) (arguments_value ts cs p k)
