-- Instances of extended rules: what holds of them, and what they are behind filters.
use Rattle.std.proofs.Common.{◌≡◌, ℕ, List, [], refl, ap, ap₂, ◌∙◌, sym, subst, inl}
use mathlib.Core.Path.{subst₂}
use Rattle.std.proofs.Math.Path.{fun_ext}
use Rattle.wh_types.specs.Ty.{Ty, sort}
use Rattle.wh_terms.specs.Tree.{Tm, bound, free}
use Rattle.wh_terms.specs.Substitution.{rename, act}
use Rattle.wh_terms.specs.Sight.{Occurs, NoFree, LooseBelow}
use Rattle.wh_terms.specs.Pattern.{IsPatternSpine}
use Rattle.wh_terms.specs.Typing.{Symbols, Declared, Typed}
use Rattle.wh_terms.specs.Value.{Body}
use Rattle.wh_terms.specs.TypedBodies.{TypedBodies}
use Rattle.wh_terms.specs.StepOver.{KeepsTypes}
use Rattle.wh_terms.proofs.ActLaws.{rename-is-act}
use Rattle.wh_terms.proofs.SightLaws.{act_closed}
use Rattle.wh_terms.proofs.TypingLaws.{typed_loose, typed_anywhere}
use Rattle.wh_terms.proofs.ValueForm.{acted, value, FitsBodies, act-value, up_times}
use Rattle.wh_terms.proofs.ValueLaws.{up_free_many-free}
use Rattle.wh_terms.proofs.ValueTyping.{typed-value, spine_bodies}
use Rattle.wh_order_inference.specs.Filters.{Filter}
use Rattle.wh_order_extended.specs.Filtered.{symbol_arity, Full, sift}
use Rattle.wh_order_extended.specs.Many.{Many}
use Rattle.wh_order_extended.proofs.Expand.{IsRenamed}
use Rattle.wh_order_extended.proofs.ManyLaws.{many_both, many_equal}
use Rattle.wh_order_extended.proofs.Acted.{typed_fits, up_many-renaming}
use Rattle.wh_order_extended.proofs.Fullness.{full_rename, full_value}
use Rattle.wh_order_extended.proofs.SiftValues.{sifted, sift-value}
use Rattle.wh_order_extended.specs.Kinds.{AreCounted}

module _ (S : Symbols) where
  -- a rule whose sides are extended
  pub record Wide : Type 0 where
    pub metas : List Declared
    pub left : Tm
    pub right : Tm
    pub result : ℕ
    pub left_typed : Typed S metas [] left (sort result)
    pub right_typed : Typed S metas [] right (sort result)
    pub left_pattern : IsPatternSpine 0 left
    pub left_closed : NoFree left
    pub right_closed : NoFree right
    pub known : (z : ℕ) → Occurs z right → Occurs z left
    pub left_full : Full S 0 left
    pub right_full : Full S 0 right

  -- T and U are the values of its sides under full bodies
  pub record Extended (P : Wide → Type 0) (T U : Tm) : Type 0 where
    pub rule : Wide
    pub listed : P rule
    pub bodies : ℕ → Body
    pub counted : AreCounted rule.metas bodies
    pub full : (z : ℕ) → Occurs z rule.left → Full S 0 (bodies z).tree
    pub is_left : T ≡ value bodies rule.left
    pub is_right : U ≡ value bodies rule.right

  module _ (P : Wide → Type 0) where
    left_fits : {T U : Tm} (e : Extended P T U) → FitsBodies e.bodies e.rule.left
    left_fits e = typed_fits e.bodies e.counted e.rule.left_typed

    right_fits : {T U : Tm} (e : Extended P T U) → FitsBodies e.bodies e.rule.right
    right_fits e = typed_fits e.bodies e.counted e.rule.right_typed

    value_renamed : (r : ℕ → ℕ) (g : ℕ → Body) (t : Tm) → FitsBodies g t → NoFree t → LooseBelow 0 t → rename r (value g t) ≡ value (acted (λ i. bound (r i)) free g) t
    value_renamed r g t f n l =
        rename-is-act r (value g t) ∙ act-value (λ i. bound (r i)) free g t (λ i. tt) (λ x a. tt) f
        ∙ ap (value (acted (λ i. bound (r i)) free g)) (act_closed (λ i. bound (r i)) free t n l)

    pub extended_renamed : IsRenamed (Extended P)
    extended_renamed r T U e = record {
      rule = e.rule;
      listed = e.listed;
      bodies = acted (λ i. bound (r i)) free e.bodies;
      counted = e.counted;
      full = λ z o. subst (Full S 0) (rename-is-act (up_times (e.bodies z).arity r) (e.bodies z).tree
          ∙ ap₂ (λ σ φ. act σ φ (e.bodies z).tree) (fun_ext (λ i. sym (up_many-renaming (e.bodies z).arity r i))) (fun_ext (λ x. fun_ext (λ a. sym (up_free_many-free (e.bodies z).arity x a)))))
          (full_rename (symbol_arity S) 0 (up_times (e.bodies z).arity r) (e.bodies z).tree (e.full z o));
      is_left = ap (rename r) e.is_left ∙ value_renamed r e.bodies e.rule.left (left_fits e) e.rule.left_closed (typed_loose e.rule.left_typed);
      is_right = ap (rename r) e.is_right ∙ value_renamed r e.bodies e.rule.right (right_fits e) e.rule.right_closed (typed_loose e.rule.right_typed);
    }

    -- the bodies of a typed instance are typed, and its type is that of the rule
    extended_bodies : (Γ : List Ty) (T U : Tm) (a : Ty) (e : Extended P T U) → Typed S [] Γ T a → (sort e.rule.result ≡ a) × TypedBodies S e.rule.metas [] Γ e.bodies e.rule.left
    extended_bodies Γ T U a e p = spine_bodies 0 e.bodies e.rule.left e.rule.left_pattern (left_fits e) (typed_anywhere Γ e.rule.left_typed) (subst (λ v. Typed S [] Γ v a) e.is_left p)

    right_bodies : (Γ : List Ty) (T U : Tm) (a : Ty) (e : Extended P T U) → Typed S [] Γ T a → TypedBodies S e.rule.metas [] Γ e.bodies e.rule.right
    right_bodies Γ T U a e p z d o q = (extended_bodies Γ T U a e p).1 z d (e.rule.known z o) q

    pub extended_typed : KeepsTypes S (Extended P)
    extended_typed Γ T U a e p =
        subst₂ (λ v b. Typed S [] Γ v b) (sym e.is_right) (extended_bodies Γ T U a e p).0 (typed-value e.bodies (typed_anywhere Γ e.rule.right_typed) (right_bodies Γ T U a e p))

    pub extended_full : (Γ : List Ty) (T U : Tm) (a : Ty) → Extended P T U → Typed S [] Γ T a → Full S 0 U
    extended_full Γ T U a e p = subst (Full S 0) (sym e.is_right)
        (full_value S e.bodies (λ z o. e.full z (e.rule.known z o)) (right_bodies Γ T U a e p) (typed_anywhere Γ e.rule.right_typed) 0 (inl refl) e.rule.right_full)

    pub extended_sort : (Γ : List Ty) (T U : Tm) (a : Ty) → Extended P T U → Typed S [] Γ T a → (s : ℕ) × (a ≡ sort s)
    extended_sort Γ T U a e p = (e.rule.result, sym (extended_bodies Γ T U a e p).0)

    -- behind filters it is an instance of the filtered sides
    pub extended_sifted : (Φ : ℕ → Filter) {Q : Tm → Tm → Type 0} → ((e : Wide) → P e → (g : ℕ → Body) → AreCounted e.metas g → Many Q (value g (sift Φ e.left [])) (value g (sift Φ e.right [])))
        → (Γ : List Ty) (T U : Tm) (a : Ty) → Extended P T U → Typed S [] Γ T a → Many Q (sift Φ T []) (sift Φ U [])
    unfolding sifted
    extended_sifted Φ lines Γ T U a e p =
        many_both (many_equal (ap (λ v. sift Φ v []) e.is_left ∙ sym (sift-value S Φ e.bodies e.full (extended_bodies Γ T U a e p).1 (typed_anywhere Γ e.rule.left_typed) 0 e.rule.left_full [] (inl refl))))
        (many_both (lines e.rule e.listed (sifted Φ e.bodies) e.counted)
        (many_equal (sift-value S Φ e.bodies (λ z o. e.full z (e.rule.known z o)) (right_bodies Γ T U a e p) (typed_anywhere Γ e.rule.right_typed) 0 e.rule.right_full [] (inl refl) ∙ ap (λ v. sift Φ v []) (sym e.is_right))))
