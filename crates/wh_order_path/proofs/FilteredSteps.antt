-- A step of a system is steps of the path order and of beta between extended and filtered terms.
use Rattle.std.proofs.Common.{◌≡◌, ◌≢◌, ℕ, zero, suc, inl, inr, List, [], ◌∷◌, length, map, refl, ap, ◌∙◌, sym, subst, Some, slice_get, Contains, ◌++◌}
use Rattle.std.specs.List.{AllByRecursion}
use mathlib.Core.Path.{subst₂}
use Rattle.wh_types.specs.Ty.{Ty, sort}
use Rattle.wh_terms.specs.Tree.{Tm, bound, free, spine, tms_of}
use Rattle.wh_terms.specs.Sight.{OccursIn, NoFree, AllNoFree}
use Rattle.wh_terms.specs.Typing.{Symbols, Declared, Typed, AllTyped, typed_more}
use Rattle.wh_terms.specs.Rules.{RewriteRule, AreWellMade}
use Rattle.wh_terms.specs.Value.{Body}
use Rattle.wh_terms.specs.StepOver.{StepOver, IsKept}
use Rattle.wh_terms.proofs.ActLaws.{rename-is-act, act-id}
use Rattle.wh_terms.proofs.TypingLaws.{some_one}
use Rattle.wh_terms.proofs.StepOver.{over-typed}
use Rattle.wh_terms.proofs.ValueForm.{value}
use Rattle.wh_step.specs.Step.{Step}
use Rattle.wh_step.proofs.Instances.{Instance, instance_of, instances_kept, instances_typed}
use Rattle.wh_step.proofs.RawStep.{step_raw}
use Rattle.wh_step_laws.specs.Ends.{Ends, StepsIn, step_here, step_there}
use Rattle.wh_step_laws.specs.RootRelations.{IsRoot, KnowsSorts}
use Rattle.wh_step_laws.proofs.SystemSteps.{instances_root}
use Rattle.wh_order_inference.specs.Filters.{Filter}
use Rattle.wh_order_inference.specs.Inferences.{Inference, letter_of, same_trees}
use Rattle.wh_order_extended.specs.Many.{Many, stay, go, Plus}
use Rattle.wh_order_extended.specs.Kinds.{AreCounted}
use Rattle.wh_order_extended.specs.Long.{long}
use Rattle.wh_order_extended.specs.ExtendedSides.{extended_metas, marked_number}
use Rattle.wh_order_extended.specs.Filtered.{collapse, filtered, sift, Full, Filters, FitsMark, collapsed, HasOneSort}
use Rattle.wh_order_extended.proofs.Expand.{IsRenamed}
use Rattle.wh_order_extended.proofs.ManyLaws.{many_both, plus_before}
use Rattle.wh_order_extended.proofs.LongTyped.{long_typed}
use Rattle.wh_order_extended.proofs.Sides.{longed}
use Rattle.wh_order_extended.proofs.SiftSteps.{Lists, no_lists, more_lists, same_lists, many_filtered}
use Rattle.wh_order_extended.proofs.CallSides.{filtered_arguments, call_is, call_sifted, call_closed, call_value, patterns_value, value_comes, value_typed, value_full}
use Rattle.wh_order_extended.proofs.StepLong.{step_long}
use Rattle.wh_order_extended.proofs.SiftTyped.{sift_typed, sift_full, no_free_sift}
use Rattle.wh_order_extended.proofs.SiftValues.{sifted, step_sift, step_full}
use Rattle.wh_order_extended.proofs.Fullness.{full_long}
use Rattle.wh_order_extended.proofs.ExtendedRules.{Wide, Extended, extended_renamed, extended_typed, extended_full, extended_sort, extended_sifted}
use Rattle.wh_order_extended.proofs.WideRules.{wide, instance_steps}
use Rattle.wh_order_path.specs.Order.{AtLeast}
use Rattle.wh_order_path.specs.OrderRoot.{OrderRoot}
use Rattle.wh_order_path.specs.Lines.{filtered_side, filtered_term, filtered_call, HaveGoodLines, PairSides, IsGoodPairLine, HasTypedBodies}
use Rattle.wh_order_path.proofs.OrderSteps.{at_least_steps, strict_steps}
use Rattle.wh_order_path.proofs.OrderEnds.{path_order_ends}
use Rattle.wh_order_path.proofs.RootTyping.{root_is}
use Rattle.wh_order_path.proofs.VerdictLaws.{line_holds}

-- what substitution keeps renaming keeps
pub kept_renamed : {R : Tm → Tm → Type 0} → IsKept R → IsRenamed R
kept_renamed {R = R} k r t u p =
    subst₂ R (sym (rename-is-act r t)) (sym (rename-is-act r u)) (k (λ i. bound (r i)) free t u (λ i. tt) (λ x a. tt) p)

collapsed_counted : (M : List Declared) (g : ℕ → Body) → AreCounted M g → AreCounted (collapsed M) g
collapsed_counted M g c z d e = on M z e (λ d. c z d)
  where
    length_map : {A B : Type 0} (h : A → B) (l : List A) → length (map h l) ≡ length l
    length_map h [] = refl
    length_map h (a ∷ l) = ap (λ n. suc n) (length_map h l)

    on : (M : List Declared) (y : ℕ) → slice_get (collapsed M) y ≡ Some d → ((d : Declared) → slice_get M y ≡ Some d → (g z).arity ≡ length d.args) → (g z).arity ≡ length d.args
    on [] y e h = absurd (cc)
    on (k ∷ M) zero e h = h k refl ∙ sym (length_map collapse k.args) ∙ ap (λ d. length d.args) (some_one e)
    on (k ∷ M) (suc y) e h = on M y e h

module _ (S F : Symbols) (Φ : ℕ → Filter) (prec : ℕ → ℕ) (rules : List RewriteRule) (well : AreWellMade S rules) (known : KnowsSorts S)
    (into : Filters S F Φ) (one : HasOneSort F) (lines : HaveGoodLines S F Φ prec rules) where
  -- the extended rule of a rule of the system
  abbrev pub of_rule : (r : RewriteRule) → Contains rules r → Wide S
  of_rule r c = wide S known r (well.each r c) (lines r c).0

  abbrev pub OfRules : Wide S → Type 0
  OfRules e = (r : RewriteRule) × (c : Contains rules r) × (e ≡ of_rule r c)

  abbrev pub Order : Tm → Tm → Type 0
  Order = StepOver (OrderRoot F prec)

  pub order_renamed : IsRenamed (OrderRoot F prec)
  order_renamed = kept_renamed (IsRoot.kept (root_is F prec))

  -- instances of the filtered sides of a rule
  line_steps : (r : RewriteRule) (c : Contains rules r) (g : ℕ → Body) → AreCounted (extended_metas S r) g
      → Many Order (value g (filtered_side S Φ r r.left)) (value g (filtered_side S Φ r r.right))
  unfolding wide
  line_steps r c g counted =
      let e = of_rule r c in
      let (i, good) = (lines r c).1 in
      let holds : AtLeast F prec (collapsed (extended_metas S r)) (filtered_side S Φ r r.left) (filtered_side S Φ r r.right) i
      = line_holds F prec (collapsed (extended_metas S r)) one (filtered_side S Φ r r.left) (filtered_side S Φ r r.right) (sort 0) (sort 0) i
      (sift_typed S F Φ into e.left_typed e.left_full) (sift_typed S F Φ into e.right_typed e.right_full)
      (no_free_sift Φ e.left [] e.left_closed tt) (no_free_sift Φ e.right [] e.right_closed tt)
      (sift_full S F Φ into e.left_typed e.left_full) (sift_full S F Φ into e.right_typed e.right_full) good in
      subst₂ (λ t u. Many Order (value g t) (value g u)) (act-id (filtered_side S Φ r r.left)) (act-id (filtered_side S Φ r r.right))
      (at_least_steps F prec holds g free (collapsed_counted (extended_metas S r) g counted) (λ x a. tt))

  wide_steps : (e : Wide S) → OfRules e → (g : ℕ → Body) → AreCounted e.metas g → Many Order (value g (sift Φ e.left [])) (value g (sift Φ e.right []))
  unfolding wide
  wide_steps e (r, c, same) g counted =
      subst (λ e. AreCounted e.metas g → Many Order (value g (sift Φ e.left [])) (value g (sift Φ e.right []))) (sym same) (line_steps r c g) counted

  -- an instance of a rule, with arguments that it lacks
  instance_long : (Γ : List Ty) (t u : Tm) (ws : List Tm) (s : ℕ) → Instance rules t u → Typed S [] Γ (spine t ws) (sort s)
      → Many (StepOver (Extended S OfRules)) (long S [] Γ (spine t ws)) (long S [] Γ (spine u ws))
  instance_long Γ t u ws s (instance_of r g c f h e d) p =
      subst₂ (λ t u. Many (StepOver (Extended S OfRules)) (long S [] Γ (spine t ws)) (long S [] Γ (spine u ws))) (sym e) (sym d)
      (instance_steps S known r (well.each r c) (lines r c).0 g ws f Γ s (subst (λ t. Typed S [] Γ (spine t ws) (sort s)) e p) OfRules (r, c, refl))

  -- a step of a term is steps of its extension
  pub long_steps : {t u : Tm} → StepOver (Instance rules) t u → (Γ : List Ty) (a : Ty) → Typed S [] Γ t a
      → Many (StepOver (Extended S OfRules)) (long S [] Γ t) (long S [] Γ u)
  long_steps s Γ a p =
      step_long S (Extended S OfRules) (extended_renamed S OfRules) (Instance rules) (kept_renamed (instances_kept S rules well)) (instances_typed S rules well)
      (IsRoot.headed (instances_root S rules well)) instance_long s Γ [] a p

  -- steps of full terms are steps behind filters
  pub sifted_steps : {T U : Tm} → Many (StepOver (Extended S OfRules)) T U → (a : Ty) → Typed S [] [] T a → Full S 0 T
      → Many Order (sift Φ T []) (sift Φ U [])
  sifted_steps stay a p f = stay
  sifted_steps (go s m) a p f =
      many_both
      (step_sift S Φ (Extended S OfRules) (OrderRoot F prec) order_renamed (extended_typed S OfRules) (λ Γ t u a. extended_full S OfRules Γ t u a) (λ Γ t u a. extended_sort S OfRules Γ t u a)
      (λ Γ t u s q p f. extended_sifted S OfRules Φ wide_steps Γ t u (sort s) q p) s [] a p [] (inl refl) f)
      (sifted_steps m a (over-typed S (extended_typed S OfRules) [] a s p)
      (step_full S Φ (Extended S OfRules) (OrderRoot F prec) order_renamed (extended_typed S OfRules) (λ Γ t u a. extended_full S OfRules Γ t u a) (λ Γ t u a. extended_sort S OfRules Γ t u a)
      (λ Γ t u s q p f. extended_sifted S OfRules Φ wide_steps Γ t u (sort s) q p) s [] a p 0 (inl refl) f))

  -- a step of a typed term is steps of its extended and filtered tree
  pub term_steps : {t u : Tm} (a : Ty) → Typed S [] [] t a → Step rules t u → Many Order (filtered_term S Φ t) (filtered_term S Φ u)
  term_steps a p s =
      sifted_steps (long_steps (step_raw S well s) [] a p) a (long_typed S [] known (λ z d e. absurd (cc)) (λ i b e. absurd (cc)) p) (full_long S p)

  lists_step : (ts us : List Tm) (cs : List Ty) → AllTyped S [] [] (tms_of ts) cs → StepsIn (Step rules) ts us
      → Lists Φ (OrderRoot F prec) order_renamed (filtered_arguments S Φ [] ts) (filtered_arguments S Φ [] us)
  unfolding filtered_arguments
  lists_step [] us cs p s = elim s [ ]
  lists_step (t ∷ ts) us [] p s = elim p [ ]
  lists_step (t ∷ ts) us (c ∷ cs) (typed_more p ps) (step_here s) = more_lists (term_steps c p s) (same_lists Φ (OrderRoot F prec) order_renamed (filtered_arguments S Φ [] ts))
  lists_step (t ∷ ts) us (c ∷ cs) (typed_more p ps) (step_there {m = m} s) = more_lists stay (lists_step ts m cs ps s)

  -- so a step in an argument of a call
  pub call_steps : (f : ℕ) (ts us : List Tm) (cs : List Ty) → AllTyped S [] [] (tms_of ts) cs → StepsIn (Step rules) ts us → Many Order (filtered_call S Φ [] f ts) (filtered_call S Φ [] f us)
  call_steps f ts us cs p s =
      subst₂ (Many Order) (sym (call_is S Φ [] f ts)) (sym (call_is S Φ [] f us))
      (many_filtered Φ (OrderRoot F prec) order_renamed (lists_step ts us cs p s) (Φ (marked_number S f)) (marked_number S f))

  -- the filtered tree of a call ends
  pub call_ends : KnowsSorts F → (f : ℕ) (ts : List Tm) (cs : List Ty) → FitsMark S F Φ f cs → AllTyped S [] [] (tms_of ts) cs → Ends Order (filtered_call S Φ [] f ts)
  call_ends sorts f ts cs m p =
      path_order_ends F prec sorts one (filtered_call S Φ [] f ts) (sort 0)
      (call_sifted S known [] (λ z d e. absurd (cc)) F Φ into f ts cs m p).typed

  occurs_left : (z : ℕ) (ts us : List Tm) → OccursIn z (tms_of ts) → OccursIn z (tms_of (ts ++ us))
  occurs_left z [] us o = absurd o
  occurs_left z (t ∷ ts) us (inl o) = inl o
  occurs_left z (t ∷ ts) us (inr o) = inr (occurs_left z ts us o)

  occurs_right : (z : ℕ) (ts us : List Tm) → OccursIn z (tms_of us) → OccursIn z (tms_of (ts ++ us))
  occurs_right z [] us o = o
  occurs_right z (t ∷ ts) us o = inr (occurs_right z ts us o)

  all_closed : (ts : List Tm) → AllNoFree (tms_of ts) → AllByRecursion NoFree ts
  all_closed [] n = tt
  all_closed (t ∷ ts) n = (n.0, all_closed ts n.1)

  module _ (M : List Declared) (f g : ℕ) (cs ds : List Ty) (left_mark : FitsMark S F Φ f cs) (right_mark : FitsMark S F Φ g ds) (ls rs : List Tm) (sides : PairSides S M cs ds ls rs)
      (i : Inference) (good : IsGoodPairLine S F Φ prec M f ls g rs i) (b : ℕ → Body) (counted : AreCounted M b) (bodies : HasTypedBodies S M b (tms_of (ls ++ rs))) where
    -- the bodies of the instance of the filtered sides
    abbrev k : ℕ → Body
    k = sifted Φ (longed S M [] b)

    k_counted : AreCounted (collapsed M) k
    unfolding longed sifted
    k_counted = collapsed_counted M k (λ z d e. counted z d e)

    pair_holds : AtLeast F prec (collapsed M) (filtered_call S Φ M f ls) (filtered_call S Φ M g rs) i
    pair_holds =
        let l = call_sifted S known M sides.metas_known F Φ into f ls cs left_mark sides.left_typed in
        let r = call_sifted S known M sides.metas_known F Φ into g rs ds right_mark sides.right_typed in
        line_holds F prec (collapsed M) one (filtered_call S Φ M f ls) (filtered_call S Φ M g rs) (sort 0) (sort 0) i l.typed r.typed
        (call_closed S known M sides.metas_known Φ f ls (all_closed ls sides.left_closed)) (call_closed S known M sides.metas_known Φ g rs (all_closed rs sides.right_closed)) l.full r.full good

    left_value : value k (filtered_call S Φ M f ls) ≡ filtered_call S Φ [] f (map (value b) ls)
    left_value =
        call_value S known M sides.metas_known sides.arguments_known Φ b counted (λ z. OccursIn z (tms_of (ls ++ rs))) (λ z d o e. bodies z d o e) f ls cs sides.left_typed (λ z o. occurs_left z ls rs o)
        ∙ ap (filtered (Φ (marked_number S f)) (marked_number S f)) (patterns_value S known M sides.metas_known sides.arguments_known Φ b counted (λ z. OccursIn z (tms_of (ls ++ rs))) (λ z d o e. bodies z d o e) ls cs sides.left_patterns sides.left_typed (λ z o. occurs_left z ls rs o))
        ∙ sym (call_is S Φ [] f (map (value b) ls))

    rights_come : (ts : List Tm) (es : List Ty) → AllTyped S M [] (tms_of ts) es → ((z : ℕ) → OccursIn z (tms_of ts) → OccursIn z (tms_of (ls ++ rs)))
        → Lists Φ (OrderRoot F prec) order_renamed (map (λ t. sift Φ (value (longed S M [] b) (long S M [] t)) []) ts) (filtered_arguments S Φ [] (map (value b) ts))
    unfolding filtered_arguments
    rights_come [] es p seen = no_lists
    rights_come (t ∷ ts) [] p seen = elim p [ ]
    rights_come (t ∷ ts) (c ∷ es) (typed_more p ps) seen =
        more_lists
        (sifted_steps (value_comes S known M sides.metas_known sides.arguments_known Φ b counted (λ z. OccursIn z (tms_of (ls ++ rs))) (λ z d o e. bodies z d o e) (Extended S OfRules) (extended_renamed S OfRules) t c p (λ z o. seen z (inl o))) c
        (value_typed S known M sides.metas_known sides.arguments_known Φ b counted (λ z. OccursIn z (tms_of (ls ++ rs))) (λ z d o e. bodies z d o e) t c p (λ z o. seen z (inl o))) (value_full S known M sides.metas_known sides.arguments_known Φ b counted (λ z. OccursIn z (tms_of (ls ++ rs))) (λ z d o e. bodies z d o e) t c p (λ z o. seen z (inl o))))
        (rights_come ts es ps (λ z o. seen z (inr o)))

    right_comes : Many Order (value k (filtered_call S Φ M g rs)) (filtered_call S Φ [] g (map (value b) rs))
    right_comes =
        subst₂ (Many Order) (sym (call_value S known M sides.metas_known sides.arguments_known Φ b counted (λ z. OccursIn z (tms_of (ls ++ rs))) (λ z d o e. bodies z d o e) g rs ds sides.right_typed (λ z o. occurs_right z ls rs o))) (sym (call_is S Φ [] g (map (value b) rs)))
        (many_filtered Φ (OrderRoot F prec) order_renamed (rights_come rs ds sides.right_typed (λ z o. occurs_right z ls rs o)) (Φ (marked_number S g)) (marked_number S g))

    -- the filtered left call comes to the filtered right call
    pub pair_steps : Many Order (filtered_call S Φ [] f (map (value b) ls)) (filtered_call S Φ [] g (map (value b) rs))
    pair_steps =
        many_both
        (subst₂ (Many Order) (ap (value k) (act-id (filtered_call S Φ M f ls)) ∙ left_value) (ap (value k) (act-id (filtered_call S Φ M g rs))) (at_least_steps F prec pair_holds k free k_counted (λ x a. tt)))
        right_comes

    -- in one step or more where the inference is not that of equal trees
    pub pair_falls : (letter_of i ≢ same_trees) → Plus Order (filtered_call S Φ [] f (map (value b) ls)) (filtered_call S Φ [] g (map (value b) rs))
    pair_falls strict =
        plus_before
        (subst₂ (Plus Order) (ap (value k) (act-id (filtered_call S Φ M f ls)) ∙ left_value) (ap (value k) (act-id (filtered_call S Φ M g rs))) (strict_steps F prec pair_holds strict k free k_counted (λ x a. tt)))
        right_comes
