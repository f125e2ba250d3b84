-- Steps in the arguments of a call, and pairs that are covered, do not raise what it is worth; strict covers lower it.
use Rattle.std.proofs.Common.{◌≡◌, ℕ, List, [], ◌∷◌, ◌++◌, length, refl, ap, ◌∙◌, sym, subst, ◌≤◌, ◌<◌, inl, inr}
use Rattle.std.proofs.lemmas.Option.{none-some}
use mathlib.Core.Path.{subst₂}
use Rattle.wh_types.specs.Ty.{Ty, sort, arguments}
use Rattle.wh_terms.specs.Tree.{Tm, Tms, none, more, tms_of}
use Rattle.wh_terms.specs.Typing.{Symbols, Declared, AllTyped, typed_none, typed_more}
use Rattle.wh_terms.specs.Value.{Body, Values}
use Rattle.wh_terms.specs.Rules.{RewriteRule, AreWellMade}
use Rattle.wh_terms.specs.StepOver.{StepOver}
use Rattle.wh_terms.proofs.ValueForm.{values}
use Rattle.wh_terms.proofs.ValueLaws.{values_are}
use Rattle.wh_step.specs.Step.{Step}
use Rattle.wh_step.proofs.RawStep.{step_raw}
use Rattle.wh_step_laws.proofs.SystemSteps.{over-more, instance-rule_root}
use Rattle.wh_step_laws.specs.Ends.{StepsIn, step_here, step_there}
use Rattle.wh_step_laws.specs.RootRelations.{RuleRoot}
use Rattle.wh_poly.specs.Polynomials.{Normal}
use Rattle.wh_hopoly.specs.Evaluation.{symbol, Interpretation, interpretation_at, type_of, evaluate, NormalInterpretations}
use Rattle.wh_hopoly.proofs.ValueLaws.{normal_value, interpretation_is}
use Rattle.wh_poly_meaning.specs.Functionals.{Sem, Mono, Le, nothing}
use Rattle.wh_poly_meaning.specs.Valuations.{Valuation, MonoValuation}
use Rattle.wh_poly_meaning.specs.Meaning.{den}
use Rattle.wh_hopoly.specs.Moves.{Transfer, IsCover, IsStrictCover}
use Rattle.wh_poly_meaning.specs.TermValues.{Meanings, MonoMeanings, value_in, fed, of_interpretations}
use Rattle.wh_polycheck.specs.Sides.{arrows}
use Rattle.wh_polycheck.specs.Sides.{types_of_metas, side_applied, Interprets, RulesAreCovered}
use Rattle.wh_poly_meaning.specs.Calls.{all_nothing, call_value, IsMarkedSide, HasTypedBodies}
use Rattle.wh_polycheck.specs.Sides.{call_polynomial}
use Rattle.wh_poly_meaning.proofs.Order.{le_same, mono_nothing, reading_mono}
use Rattle.wh_poly_meaning.proofs.Covers.{cover_den, strict_cover_den}
use Rattle.wh_poly_meaning.proofs.Mean.{den_value}
use Rattle.wh_poly_meaning.proofs.TermValues.{value_mono, fed_le}
use Rattle.wh_poly_meaning.proofs.MetaValues.{with_metas, metas_value, metas_value_mono, metas_value_is, AllMeanBodies, value_value}
use Rattle.wh_polycheck.proofs.SideTypes.{side_applied_typed, HasSideType}
use Rattle.wh_poly_meaning.proofs.SideMeans.{symbol_means, mean_applied}
use Rattle.wh_poly_meaning.proofs.Steps.{reading_at, mono_terms, term_step_le}

-- what terms mean where all variables are 0
abbrev terms_at_nothing : List Interpretation → Meanings
terms_at_nothing symbols = record { of_symbols = of_interpretations symbols; of_metas = all_nothing; of_free = all_nothing }

-- steps of a system are steps over its rules
steps_over : (S : Symbols) (rules : List RewriteRule) → AreWellMade S rules → {ts us : List Tm} → StepsIn (Step rules) ts us
    → StepsIn (StepOver (RuleRoot rules)) ts us
steps_over S rules w (step_here r) = step_here (over-more instance-rule_root (step_raw S w r))
steps_over S rules w (step_there s) = step_there (steps_over S rules w s)

module _ (S : Symbols) (symbols : List Interpretation) (interprets : Interprets S symbols) (normal : NormalInterpretations symbols) where
  mono_nothings : MonoValuation all_nothing
  mono_nothings x A = mono_nothing A

  mono_at_nothing : MonoMeanings (terms_at_nothing symbols)
  mono_at_nothing = mono_terms symbols all_nothing mono_nothings

  interpretations_mono : MonoValuation (of_interpretations symbols)
  interpretations_mono f A = reading_mono A [] all_nothing (interpretation_at symbols f).polynomial mono_nothings

  -- a function of arguments, one of which steps
  fed_step_le : (rules : List RewriteRule) → AreWellMade S rules → RulesAreCovered symbols rules
      → (cs : List Ty) (A : Ty) (f : Sem (arrows cs A)) → Mono (arrows cs A) f
      → (ts us : List Tm) → AllTyped S [] [] (tms_of ts) cs → StepsIn (StepOver (RuleRoot rules)) ts us
      → Le A (fed S [] (terms_at_nothing symbols) [] all_nothing cs A f (tms_of us))
      (fed S [] (terms_at_nothing symbols) [] all_nothing cs A f (tms_of ts))
  fed_step_le rules w k [] A f mf [] us p s = elim s [ ]
  fed_step_le rules w k [] A f mf (t ∷ ts) us p s = elim p [ ]
  fed_step_le rules w k (c ∷ cs) A f mf [] us p s = elim s [ ]
  fed_step_le rules w k (c ∷ cs) A f mf (t ∷ ts) [] p s = elim s [ ]
  fed_step_le rules w k (c ∷ cs) A f mf (t ∷ ts) (u ∷ us) (typed_more p ps) (step_here r) =
      let m = terms_at_nothing symbols in
      let x = value_in S [] m [] u all_nothing c in
      let y = value_in S [] m [] t all_nothing c in
      let mx = value_mono S [] m mono_at_nothing u [] all_nothing mono_nothings c in
      let my = value_mono S [] m mono_at_nothing t [] all_nothing mono_nothings c in
      fed_le S [] m mono_at_nothing (tms_of ts) [] all_nothing all_nothing mono_nothings mono_nothings (λ i D. le_same D (nothing D)) cs A (f x) (f y) (mf.0 x mx) (mf.0 y my)
      (mf.1 x y mx my (term_step_le S symbols interprets normal all_nothing mono_nothings rules w k [] t u c r p all_nothing mono_nothings))
  fed_step_le rules w k (c ∷ cs) A f mf (t ∷ ts) (v ∷ us) (typed_more p ps) (step_there s) =
      let x = value_in S [] (terms_at_nothing symbols) [] t all_nothing c in
      fed_step_le rules w k cs A (f x) (mf.0 x (value_mono S [] (terms_at_nothing symbols) mono_at_nothing t [] all_nothing mono_nothings c)) ts us ps s

  -- a step in an argument does not raise what a call is worth
  pub call_step_le : (rules : List RewriteRule) → AreWellMade S rules → RulesAreCovered symbols rules
      → (k : ℕ) (cs : List Ty) (s : ℕ) (ts us : List Tm) → AllTyped S [] [] (tms_of ts) cs
      → StepsIn (StepOver (RuleRoot rules)) ts us → call_value S symbols k cs s (tms_of us) ≤ call_value S symbols k cs s (tms_of ts)
  call_step_le rules w c k cs s ts us p r =
      fed_step_le rules w c cs (sort s) (of_interpretations symbols k (arrows cs (sort s))) (interpretations_mono k (arrows cs (sort s))) ts us p r

  -- no step of a system in an argument raises what a call is worth
  pub call_reduct_le : (rules : List RewriteRule) → AreWellMade S rules → RulesAreCovered symbols rules
      → (k : ℕ) (cs : List Ty) (s : ℕ) (ts us : List Tm) → AllTyped S [] [] (tms_of ts) cs
      → StepsIn (Step rules) ts us → call_value S symbols k cs s (tms_of us) ≤ call_value S symbols k cs s (tms_of ts)
  call_reduct_le rules w c k cs s ts us p r = call_step_le rules w c k cs s ts us p (steps_over S rules w r)

  marked_type : (M : List Declared) (k : ℕ) (cs : List Ty) (s : ℕ) (ts : Tms) → IsMarkedSide S symbols M k cs s ts
      → HasSideType S M symbols interprets [] (side_applied (length (types_of_metas M)) (symbol k) ts) (sort s)
  marked_type M k cs s ts h = let (i, e, j) = h.interpreted in
      side_applied_typed S M symbols interprets (length (types_of_metas M)) refl (symbol k) (sort s) ((i, e), ap (λ i. i.kind) (interpretation_is symbols k i e) ∙ j) h.typed h.closed

  -- the polynomial of a marked side is normal
  pub call_normal : (M : List Declared) (k : ℕ) (cs : List Ty) (s : ℕ) (ts : Tms) → IsMarkedSide S symbols M k cs s ts
      → Normal (types_of_metas M ++ []) (call_polynomial symbols M k ts)
  call_normal M k cs s ts h =
      let (typed, e) = marked_type M k cs s ts h in
      subst (λ b. Normal (types_of_metas M ++ arguments b) (call_polynomial symbols M k ts)) e
      (normal_value symbols normal (types_of_metas M) (side_applied (length (types_of_metas M)) (symbol k) ts) typed)

  -- a marked side is worth what its polynomial means, where variables mean what meta-variables do
  side_worth : (m : Meanings) → ((f : ℕ) (A : Ty) → m.of_symbols f A ≡ of_interpretations symbols f A)
      → (M : List Declared) (k : ℕ) (cs : List Ty) (s : ℕ) (ts : Tms) → IsMarkedSide S symbols M k cs s ts
      → (ρ : Valuation)
      → fed S M m [] ρ cs (sort s)
      (m.of_symbols k (arrows cs (sort s))) ts ≡ den (types_of_metas M ++ []) m.of_metas (call_polynomial symbols M k ts)
  side_worth m means M k cs s ts h ρ =
      let Γ = types_of_metas M in
      let x = side_applied (length Γ) (symbol k) ts in
      let (typed, e) = marked_type M k cs s ts h in
      let (i, j, q) = h.interpreted in
      let c : type_of symbols Γ (symbol k) ≡ arrows cs (sort s) = ap (λ i. i.kind) (interpretation_is symbols k i j) ∙ q in
      sym (mean_applied S M symbols interprets normal m means (length Γ) refl ρ m.of_metas (record { metas = λ z d h. refl; binders = λ i b h. absurd (none-some b h) }) (symbol k) (sort s) c h.typed h.closed e
      ∙ ap (λ f. fed S M m [] ρ cs (sort s) f ts) (symbol_means S M symbols interprets normal m means k (arrows cs (sort s)) i j m.of_metas c))
      ∙ ap (subst Sem {x = type_of symbols Γ x} {y = sort s} e) (sym (den_value symbols normal Γ x m.of_metas typed))
      ∙ reading_at Γ m.of_metas (evaluate symbols Γ x).result (type_of symbols Γ x) (sort s) e

  -- arguments under a meta-substitution
  fed_values : (M : List Declared) (ζ : Valuation) (m : Meanings) (g : ℕ → Body) (ρ : Valuation) (ts : Tms) (cs : List Ty) (A : Ty)
      (f : Sem (arrows cs A)) → AllTyped S M [] ts cs → AllMeanBodies S m M ζ [] g ρ ts
      → fed S [] m [] ρ cs A f (values g ts) ≡ fed S M (with_metas m ζ) [] ρ cs A f ts
  unfolding values
  fed_values M ζ m g ρ none cs A f typed_none h = refl
  fed_values M ζ m g ρ (more t ts) [] A f p h = elim p [ ]
  fed_values M ζ m g ρ (more t ts) (c ∷ cs) A f (typed_more p ps) h =
      ap (λ x. fed S [] m [] ρ cs A (f x) (values g ts)) (value_value S m M ζ g ρ p (λ z d o e. h z d (inl o) e))
      ∙ fed_values M ζ m g ρ ts cs A (f (value_in S M (with_metas m ζ) [] t ρ c)) ps (λ z d o e. h z d (inr o) e)

  -- what a call is worth that is the value of a marked side
  pub call_worth : (M : List Declared) (g : ℕ → Body) (k : ℕ) (cs : List Ty) (s : ℕ) (ts vs : Tms) → IsMarkedSide S symbols M k cs s ts
      → HasTypedBodies S M g ts → Values g ts vs
      → call_value S symbols k cs s vs ≡ den (types_of_metas M ++ []) (metas_value S (terms_at_nothing symbols) M g [] all_nothing)
      (call_polynomial symbols M k ts)
  call_worth M g k cs s ts vs h b v =
      let m = terms_at_nothing symbols in
      let ζ = metas_value S m M g [] all_nothing in
      ap (call_value S symbols k cs s) ((values_are v).1)
      ∙ fed_values M ζ m g all_nothing ts cs (sort s) (of_interpretations symbols k (arrows cs (sort s))) h.typed (λ z d o e. (b z d o e, metas_value_is S m M g [] all_nothing z d e))
      ∙ side_worth (with_metas m ζ) (λ f A. refl) M k cs s ts h all_nothing

  module _ (M : List Declared) (g : ℕ → Body) (k : ℕ) (cs : List Ty) (s : ℕ) (ts vs : Tms) (l : ℕ) (ds : List Ty) (r : ℕ) (us ws : Tms)
      (left : IsMarkedSide S symbols M k cs s ts) (right : IsMarkedSide S symbols M l ds r us) (left_bodies : HasTypedBodies S M g ts) (right_bodies : HasTypedBodies S M g us)
      (left_values : Values g ts vs) (right_values : Values g us ws) (ms : List Transfer) where
    bodies_mono : MonoValuation (metas_value S (terms_at_nothing symbols) M g [] all_nothing)
    bodies_mono = metas_value_mono S (terms_at_nothing symbols) mono_at_nothing M g [] all_nothing mono_nothings

    pub covered_call_le : IsCover (call_polynomial symbols M k ts) (call_polynomial symbols M l us) ms
        → call_value S symbols l ds r ws ≤ call_value S symbols k cs s vs
    covered_call_le c = subst₂ (λ a b. a ≤ b) (sym (call_worth M g l ds r us ws right right_bodies right_values)) (sym (call_worth M g k cs s ts vs left left_bodies left_values))
        (cover_den (types_of_metas M ++ []) (metas_value S (terms_at_nothing symbols) M g [] all_nothing) bodies_mono (call_polynomial symbols M k ts) (call_polynomial symbols M l us)
        (call_normal M k cs s ts left) (call_normal M l ds r us right) ms c)

    pub strictly_covered_call_lt : IsStrictCover (call_polynomial symbols M k ts) (call_polynomial symbols M l us) ms
        → call_value S symbols l ds r ws < call_value S symbols k cs s vs
    strictly_covered_call_lt c = subst₂ (λ a b. a < b) (sym (call_worth M g l ds r us ws right right_bodies right_values)) (sym (call_worth M g k cs s ts vs left left_bodies left_values))
        (strict_cover_den (types_of_metas M ++ []) (metas_value S (terms_at_nothing symbols) M g [] all_nothing) bodies_mono (call_polynomial symbols M k ts) (call_polynomial symbols M l us)
        (call_normal M k cs s ts left) (call_normal M l ds r us right) ms c)
