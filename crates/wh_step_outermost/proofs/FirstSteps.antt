-- The leftmost-outermost step of a term: it is one, and it leads to the first of the reducts.
use Rattle.std.proofs.Common.{◌≡◌, ℕ, zero, suc, inl, inr, List, [], ◌∷◌, Option, Some, slice_get, ap, sym, subst, arith}
use Rattle.std.specs.Prelude.{Contains}
use Rattle.wh_terms.specs.Tree.{Tm}
use Rattle.wh_terms.specs.Typing.{Symbols}
use Rattle.wh_terms.specs.Rules.{RewriteRule, AreWellMade}
use Rattle.wh_step.specs.Step.{Step}
use Rattle.wh_step.specs.Replay.{StepAt}
use Rattle.wh_step.specs.Reducts.{Redex, Precedes, InOrder, StepsTo, AreReducts}
use Rattle.wh_step.proofs.RootLaws.{step_one}
use Rattle.wh_step.proofs.Places.{step_at-step}
use Rattle.wh_step_outermost.specs.Leftmost.{IsFirstStep, Leftmost, StepsFirstBy}
use Rattle.wh_step_outermost.proofs.OrderLaws.{precedes_irrefl, precedes_trans, redex_cases, head_precedes}

pub leftmost_step : {rules : List RewriteRule} {t u : Tm} → Leftmost rules t u → Step rules t u
leftmost_step (a, f) = step_at-step f.applies

pub leftmost_one : {rules : List RewriteRule} {t u v : Tm} (S : Symbols) → AreWellMade S rules → Leftmost rules t u → Leftmost rules t v → u ≡ v
leftmost_one {rules} {t} {u} {v} S w (a, f) (b, g) = elim (redex_cases a b) [
  | inl h ↦ absurd (g.first a u f.applies h)
  | inr other ↦ elim other [
    | inl same ↦ step_one S w f.applies (subst (λ (c : Redex). StepAt rules c.rule c.path t v) (sym same) g.applies)
    | inr h ↦ absurd (f.first b v g.applies h)
  ]
]

none_before : (c : Redex) (rest : List Redex) → InOrder (c ∷ rest) → (b : Redex) → Contains (c ∷ rest) b → Precedes b c → ⊥
none_before c rest order b (zero, within, is) h = precedes_irrefl c (subst (λ (d : Redex). Precedes d c) (sym is) h)
none_before c rest order b (suc k, within, is) h = precedes_irrefl c (precedes_trans c b c (head_precedes c rest order b (k, omega arith, is)) h)

module _ {rules : List RewriteRule} {t : Tm} (S : Symbols) (w : AreWellMade S rules) where
  -- at the head of the list of redexes
  first_there : (a : Redex) (u : Tm) → IsFirstStep rules t a u → (rs : List Redex) (us : List Tm) → InOrder rs → StepsTo rules t rs us → Contains rs a → slice_get us 0 ≡ Some u
  first_there a u f [] us order to (k, within, is) = absurd (omega arith)
  first_there a u f (c ∷ rest) [] order to here = absurd to
  first_there a u f (c ∷ rest) (v ∷ us) order to (zero, within, is) =
      ap Some (step_one S w to.0 (subst (λ (b : Redex). StepAt rules b.rule b.path t u) (sym is) f.applies))
  first_there a u f (c ∷ rest) (v ∷ us) order to (suc k, within, is) =
      absurd (f.first c v to.0 (head_precedes c rest order a (k, omega arith, is)))

  head_is_first : (u : Tm) (rs : List Redex) (us : List Tm) → InOrder rs → StepsTo rules t rs us → ((b : Redex) (v : Tm) → StepAt rules b.rule b.path t v → Contains rs b) → slice_get us 0 ≡ Some u → Leftmost rules t u
  head_is_first u [] [] order to all e = absurd (cc)
  head_is_first u [] (v ∷ us) order to all e = absurd to
  head_is_first u (c ∷ rest) [] order to all e = absurd to
  head_is_first u (c ∷ rest) (v ∷ us) order to all e =
      let same : v ≡ u = cc in
      (c, record { applies = subst (StepAt rules c.rule c.path t) same to.0; first = λ b x step h. none_before c rest order b (all b x step) h })

  pub first_reduct : (u : Tm) (us : List Tm) → AreReducts rules t us → Leftmost rules t u → slice_get us 0 ≡ Some u
  first_reduct u us are (a, f) = first_there a u f are.redexes us are.order are.results (are.all a.rule a.path u f.applies)

  pub reduct_first : (u : Tm) (us : List Tm) → AreReducts rules t us → slice_get us 0 ≡ Some u → Leftmost rules t u
  reduct_first u us are e = head_is_first u are.redexes us are.order are.results (λ b v step. are.all b.rule b.path v step) e

pub first_has_reduct : {rules : List RewriteRule} {t : Tm} (k : Option ℕ) (path : List ℕ) → StepsFirstBy rules t k path → (v : Tm) × Step rules t v
first_has_reduct k path (v, f) = (v, step_at-step f.applies)
