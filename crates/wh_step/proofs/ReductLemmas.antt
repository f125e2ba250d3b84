-- What is in the list of the reducts, by the redexes.
use Rattle.std.proofs.Common.{◌≡◌, ◌<◌, ℕ, zero, suc, List, [], ◌∷◌, length, Option, Contains, subst, sym, arith}
use Rattle.wh_terms.specs.Tree.{Tm}
use Rattle.wh_terms.specs.Typing.{Symbols}
use Rattle.wh_terms.specs.Rules.{RewriteRule, AreWellMade}
use Rattle.wh_step.specs.Replay.{StepAt}
use Rattle.wh_step.specs.Reducts.{Redex, StepsTo}
use Rattle.wh_step.proofs.RootLaws.{step_one}

-- a result is one at some redex
pub result_steps : {rules : List RewriteRule} {t : Tm} (rs : List Redex) (us : List Tm) → StepsTo rules t rs us → (u : Tm) → Contains us u → (k : Option ℕ) × (path : List ℕ) × StepAt rules k path t u
result_steps [] [] s u (k, within, is) = absurd (omega arith)
result_steps [] (v ∷ us) s u listed = absurd s
result_steps (a ∷ rest) [] s u listed = absurd s
result_steps {rules} {t} (a ∷ rest) (v ∷ us) (here, more) u (zero, within, is) = (a.rule, a.path, subst (StepAt rules a.rule a.path t) is here)
result_steps (a ∷ rest) (v ∷ us) (here, more) u (suc k, within, is) = result_steps rest us more u (k, omega arith, is)

-- what a term steps to at a redex of the list is a result
pub step_listed : {rules : List RewriteRule} {t : Tm} (S : Symbols) → AreWellMade S rules → (rs : List Redex) (us : List Tm) → StepsTo rules t rs us → (r : Redex) → Contains rs r → (u : Tm) → StepAt rules r.rule r.path t u → Contains us u
step_listed S well [] us s r (k, within, is) u at = absurd (omega arith)
step_listed S well (a ∷ rest) [] s r listed u at = absurd s
step_listed {rules} {t} S well (a ∷ rest) (v ∷ us) (here, more) r (zero, within, is) u at =
    (zero, omega arith, step_one S well here (subst (λ (b : Redex). StepAt rules b.rule b.path t u) (sym is) at))
step_listed S well (a ∷ rest) (v ∷ us) (here, more) r (suc k, within, is) u at =
    let (j, inside, found) = step_listed S well rest us more r (k, omega arith, is) u at in (suc j, omega arith, found)
