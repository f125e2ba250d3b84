-- Steps do not raise values where the rules are covered.
use Rattle.std.proofs.Common.{◌≡◌, ℕ, List, [], ◌∷◌, ◌++◌, length, refl, ap, ◌∙◌, sym, subst, Some, slice_get}
use mathlib.Core.Path.{path_j, subst₂, subst_refl}
use Rattle.std.proofs.lemmas.Option.{none-some}
use Rattle.wh_types.specs.Ty.{Ty, ◌⇒◌, arguments}
use Rattle.wh_terms.specs.Tree.{Tm, lam, app}
use Rattle.wh_terms.specs.Substitution.{opened}
use Rattle.wh_terms.specs.Sight.{NoFree, Occurs}
use Rattle.wh_terms.specs.Typing.{Symbols, Declared, Typed, typed_lam, typed_app}
use Rattle.wh_terms.specs.Value.{Body}
use Rattle.wh_terms.specs.Rules.{RewriteRule, IsWellMade, AreWellMade}
use Rattle.wh_terms.specs.StepOver.{StepOver, over_root, over_beta, over_function, over_argument, over_body, KeepsTypes}
use Rattle.wh_terms.specs.TypedBodies.{FitsDeclared}
use Rattle.wh_terms.proofs.TypingLaws.{typed_anywhere}
use Rattle.wh_terms.proofs.ValueForm.{value}
use Rattle.wh_terms.proofs.ValueTyping.{spine_bodies}
use Rattle.wh_terms.proofs.StepOver.{over-typed}
use Rattle.wh_step.proofs.Instances.{Instance, instance_of, spine_left}
use Rattle.wh_step_laws.specs.RootRelations.{RuleRoot}
use Rattle.wh_step_laws.proofs.SystemSteps.{rules_root, rule_root-instance}
use Rattle.wh_poly.specs.Polynomials.{Polynomial, Normal}
use Rattle.wh_hopoly.specs.Evaluation.{Interpretation, interpretation_at, type_of, evaluate, NormalInterpretations}
use Rattle.wh_hopoly.proofs.ValueLaws.{normal_value}
use Rattle.wh_poly_meaning.specs.Functionals.{Sem, Le, nothing}
use Rattle.wh_poly_meaning.specs.Valuations.{Valuation, MonoValuation}
use Rattle.wh_poly_meaning.specs.Meaning.{den, reading}
use Rattle.wh_poly_meaning.specs.TermValues.{type_in, Meanings, MonoMeanings, push, value_in, of_interpretations, term_value}
use Rattle.wh_hopoly.specs.Moves.{Transfer, IsCover}
use Rattle.wh_polycheck.specs.Sides.{types_of_metas, side, side_polynomial, Interprets, RuleIsCovered, RulesAreCovered}
use Rattle.wh_poly_meaning.proofs.Order.{le_equal, fun_le, mono_nothing, reading_mono}
use Rattle.wh_poly_meaning.proofs.Covers.{cover_den}
use Rattle.wh_poly_meaning.proofs.Mean.{den_value}
use Rattle.wh_poly_meaning.proofs.TermValues.{has_same, type_is, value_app, value_agree, value_beta, value_mono, mono_push}
use Rattle.wh_poly_meaning.proofs.MetaValues.{with_metas, metas_value, metas_value_mono, metas_value_is, value_value}
use Rattle.wh_polycheck.proofs.SideTypes.{side_typed}
use Rattle.wh_poly_meaning.proofs.SideMeans.{mean_side}

-- a reading taken along an equality of types
pub reading_at : (Γ : List Ty) (ψ : Valuation) (p : Polynomial) (A B : Ty) (e : A ≡ B)
    → subst Sem {x = A} {y = B} e (reading A Γ ψ p) ≡ reading B Γ ψ p
reading_at Γ ψ p A B e = path_j (λ B e. subst Sem {x = A} {y = B} e (reading A Γ ψ p) ≡ reading B Γ ψ p) (subst_refl Sem {x = A} (reading A Γ ψ p)) e

module _ (S : Symbols) (symbols : List Interpretation) (interprets : Interprets S symbols) (normal : NormalInterpretations symbols) where
  -- the polynomial of a typed side is normal in its scope
  pub side_normal : (M : List Declared) (t : Tm) (a : Ty) → Typed S M [] t a → NoFree t
      → Normal (types_of_metas M ++ arguments a) (side_polynomial symbols M t)
  side_normal M t a p f =
      let (typed, e) = side_typed S M symbols interprets (length (types_of_metas M)) refl p f in
      subst (λ b. Normal (types_of_metas M ++ arguments b) (side_polynomial symbols M t)) e (normal_value symbols normal (types_of_metas M) (side (length (types_of_metas M)) t) typed)

  module _ (m : Meanings) (means : (f : ℕ) (A : Ty) → m.of_symbols f A ≡ of_interpretations symbols f A) where
    -- the value of a side is what its polynomial means, where variables mean what meta-variables do
    pub side_value : (M : List Declared) (t : Tm) (a : Ty) → Typed S M [] t a → NoFree t → (ρ : Valuation)
        → value_in S M m [] t ρ a ≡ reading a (types_of_metas M) m.of_metas (side_polynomial symbols M t)
    side_value M t a p f ρ =
        let Γ = types_of_metas M in
        let x = side (length Γ) t in
        let (typed, e) = side_typed S M symbols interprets (length Γ) refl p f in
        sym (mean_side S M symbols interprets normal m means (length Γ) refl ρ m.of_metas
        (record { metas = λ z d h. refl; binders = λ i b h. absurd (none-some b h) }) p f e)
        ∙ ap (subst Sem {x = type_of symbols Γ x} {y = a} e) (sym (den_value symbols normal Γ x m.of_metas typed))
        ∙ reading_at Γ m.of_metas (evaluate symbols Γ x).result (type_of symbols Γ x) a e

    -- the value of a covered side is at most that of the side that covers it
    pub covered_le : (M : List Declared) (t u : Tm) (a : Ty) → Typed S M [] t a → NoFree t → Typed S M [] u a → NoFree u
        → (ms : List Transfer) → IsCover (side_polynomial symbols M t) (side_polynomial symbols M u) ms → MonoValuation m.of_metas
        → (ρ : Valuation)
        → Le a (value_in S M m [] u ρ a) (value_in S M m [] t ρ a)
    covered_le M t u a p f q g ms c k ρ =
        let Γ = types_of_metas M in
        subst₂ (Le a) (sym (side_value M u a q g ρ)) (sym (side_value M t a p f ρ))
        (fun_le (λ χ. den (Γ ++ arguments a) χ (side_polynomial symbols M u)) (λ χ. den (Γ ++ arguments a) χ (side_polynomial symbols M t))
        (λ χ h. cover_den (Γ ++ arguments a) χ h (side_polynomial symbols M t) (side_polynomial symbols M u) (side_normal M t a p f) (side_normal M u a q g) ms c)
        a (length Γ) m.of_metas k)

module _ (S : Symbols) (m : Meanings) (mono : MonoMeanings m) where
  -- a side has one value, whatever binders it stands below
  side_anywhere : (M : List Declared) (n : Meanings) (Γ : List Ty) (t : Tm) (a : Ty) → Typed S M [] t a → (ρ χ : Valuation)
      → value_in S M n Γ t ρ a ≡ value_in S M n [] t χ a
  side_anywhere M n Γ t a p ρ χ = value_agree S M n Γ χ ρ (λ i b e. absurd (none-some b e)) p

  beta_le : {Γ : List Ty} {t u : Tm} {b c d : Ty} (ρ : Valuation) → Typed S [] Γ (lam b t) (c ⇒ d) → Typed S [] Γ u c
      → Le d (value_in S [] m Γ (opened u t) ρ d) (value_in S [] m Γ (app (lam b t) u) ρ d)
  beta_le {Γ = Γ} {t = t} {u = u} {b = b} {d = d} ρ (typed_lam s p) q = le_equal d (value_in S [] m Γ (opened u t) ρ d) (value_in S [] m Γ (app (lam b t) u) ρ d) (value_beta S [] m ρ p q)

  -- no step raises the value if no step at the root does
  pub step_le : {R : Tm → Tm → Type 0} {t u : Tm} → KeepsTypes S R
      → ((Γ : List Ty) (t u : Tm) (a : Ty) → R t u → Typed S [] Γ t a → (ρ : Valuation) → MonoValuation ρ → Le a (value_in S [] m Γ u ρ a) (value_in S [] m Γ t ρ a))
      → StepOver R t u → (Γ : List Ty) (a : Ty) → Typed S [] Γ t a → (ρ : Valuation) → MonoValuation ρ
      → Le a (value_in S [] m Γ u ρ a) (value_in S [] m Γ t ρ a)
  step_le k h (over_root {t = t} {u = u} r) Γ a p ρ w = h Γ t u a r p ρ w
  step_le k h (over_beta {a = b} {t = t} {u = u} e) Γ a (typed_app p q) ρ w =
      subst (λ v. Le a (value_in S [] m Γ v ρ a) (value_in S [] m Γ (app (lam b t) u) ρ a)) (sym e) (beta_le ρ p q)
  step_le k h (over_function {t = t} {t' = v} {u = u} s) Γ a (typed_app {a = b} p q) ρ w =
      step_le k h s Γ (type_in S [] Γ u ⇒ a) (subst (λ c. Typed S [] Γ t (c ⇒ a)) (sym (type_is Γ (has_same Γ) q)) p) ρ w
      (value_in S [] m Γ u ρ (type_in S [] Γ u)) (value_mono S [] m mono u Γ ρ w (type_in S [] Γ u))
  step_le k h (over_argument {t = t} {u = u} {u' = v} s) Γ a (typed_app {a = b} p q) ρ w =
      subst₂ (Le a) (sym (value_app S [] m Γ t v ρ a b (type_is Γ (has_same Γ) (over-typed S k Γ b s q)))) (sym (value_app S [] m Γ t u ρ a b (type_is Γ (has_same Γ) q)))
      ((value_mono S [] m mono t Γ ρ w (b ⇒ a)).1 (value_in S [] m Γ v ρ b) (value_in S [] m Γ u ρ b) (value_mono S [] m mono v Γ ρ w b) (value_mono S [] m mono u Γ ρ w b) (step_le k h s Γ b q ρ w))
  step_le k h (over_body s) Γ a (typed_lam {a = c} {b = b} r p) ρ w = λ v mv. step_le k h s (c ∷ Γ) b p (push c v ρ) (mono_push c v ρ mv w)

  module _ (symbols : List Interpretation) (interprets : Interprets S symbols) (normal : NormalInterpretations symbols) (means : (f : ℕ) (A : Ty) → m.of_symbols f A ≡ of_interpretations symbols f A) where
    -- the values of the two sides of a covered rule under one meta-substitution
    rule_le : (r : RewriteRule) (w : IsWellMade S r) → RuleIsCovered symbols r → (g : ℕ → Body) (Γ : List Ty)
        → ((z : ℕ) (d : Declared) → Occurs z r.left → slice_get r.metas z ≡ Some d → FitsDeclared S [] Γ d (g z)) → (ρ : Valuation)
        → MonoValuation ρ
        → Le w.typed.0 (value_in S [] m Γ (value g r.right) ρ w.typed.0) (value_in S [] m Γ (value g r.left) ρ w.typed.0)
    rule_le r w (ms, c) g Γ bodies ρ k =
        let b = w.typed.0 in
        let ζ = metas_value S m r.metas g Γ ρ in
        let n = with_metas m ζ in
        let left = value_value S m r.metas ζ g ρ (typed_anywhere Γ w.typed.1) (λ z d o q. (bodies z d o q, metas_value_is S m r.metas g Γ ρ z d q)) ∙ side_anywhere r.metas n Γ r.left b w.typed.1 ρ ρ in
        let right = value_value S m r.metas ζ g ρ (typed_anywhere Γ w.typed.2) (λ z d o q. (bodies z d (w.known z o) q, metas_value_is S m r.metas g Γ ρ z d q)) ∙ side_anywhere r.metas n Γ r.right b w.typed.2 ρ ρ in
        subst₂ (Le b) (sym right) (sym left)
        (covered_le S symbols interprets normal n means r.metas r.left r.right b w.typed.1 w.left_closed w.typed.2 w.right_closed ms c (metas_value_mono S m mono r.metas g Γ ρ k) ρ)

    -- an instance of a covered rule does not raise the value
    pub instance_le : (rules : List RewriteRule) → AreWellMade S rules → RulesAreCovered symbols rules
        → (Γ : List Ty) (t u : Tm) (a : Ty) → Instance rules t u → Typed S [] Γ t a
        → (ρ : Valuation) → MonoValuation ρ → Le a (value_in S [] m Γ u ρ a) (value_in S [] m Γ t ρ a)
    instance_le rules well covered Γ t u a (instance_of r g c f h e d) p ρ k =
        let w = well.each r c in
        let (same, bodies) = spine_bodies 0 g r.left (spine_left S r w) f (typed_anywhere Γ w.typed.1) (subst (λ v. Typed S [] Γ v a) e p) in
        subst (λ a. Le a (value_in S [] m Γ u ρ a) (value_in S [] m Γ t ρ a)) same
        (subst₂ (λ u t. Le w.typed.0 (value_in S [] m Γ u ρ w.typed.0) (value_in S [] m Γ t ρ w.typed.0)) (sym d) (sym e)
        (rule_le r w (covered r c) g Γ bodies ρ k))

    -- no step of covered rules raises the value of a well-typed term, at any place
    pub covered_step_le : (rules : List RewriteRule) → AreWellMade S rules → RulesAreCovered symbols rules
        → (Γ : List Ty) (t u : Tm) (a : Ty) → StepOver (RuleRoot rules) t u → Typed S [] Γ t a
        → (ρ : Valuation) → MonoValuation ρ → Le a (value_in S [] m Γ u ρ a) (value_in S [] m Γ t ρ a)
    covered_step_le rules well covered Γ t u a s p ρ k =
        step_le (rules_root S rules well).typed (λ Γ t u a r p ρ k. instance_le rules well covered Γ t u a (rule_root-instance t u r) p ρ k) s Γ a p ρ k

-- the meanings of terms are monotone
pub mono_terms : (symbols : List Interpretation) (ψ : Valuation) → MonoValuation ψ
    → MonoMeanings (record { of_symbols = of_interpretations symbols; of_metas = λ z A. nothing A; of_free = ψ })
mono_terms symbols ψ h = record {
  symbols = λ f A. reading_mono A [] (λ x B. nothing B) (interpretation_at symbols f).polynomial (λ x B. mono_nothing B);
  metas = λ z A. mono_nothing A;
  free = h;
}

pub term_step_le : (S : Symbols) (symbols : List Interpretation) → Interprets S symbols → NormalInterpretations symbols → (ψ : Valuation)
    → MonoValuation ψ
    → (rules : List RewriteRule) → AreWellMade S rules → RulesAreCovered symbols rules → (Γ : List Ty) (t u : Tm) (a : Ty)
    → StepOver (RuleRoot rules) t u → Typed S [] Γ t a
    → (ρ : Valuation) → MonoValuation ρ → Le a (term_value S symbols ψ Γ u ρ a) (term_value S symbols ψ Γ t ρ a)
term_step_le S symbols i n ψ h rules well covered Γ t u a s p ρ k =
    covered_step_le S (record { of_symbols = of_interpretations symbols; of_metas = λ z A. nothing A; of_free = ψ }) (mono_terms symbols ψ h) symbols i n (λ f A. refl) rules well covered Γ t u a s p ρ k
