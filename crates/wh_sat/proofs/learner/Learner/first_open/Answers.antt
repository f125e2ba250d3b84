use Rattle.std.proofs.Common.{arith, sym, ap, subst, inl, inr, None, ◌≡◌}
use Rattle.std.proofs.lemmas.Bool.{cases_eq}
use Rattle.wh_sat_trail.specs.Assignment.{value_in}
use Rattle.wh_sat_trail.specs.State.{assigned}
use Rattle.wh_sat_trail.specs.declared.formula.Formula.{Formula}
use Rattle.wh_sat_trail.proofs.Looking.{open_not_false}
use Rattle.wh_sat.proofs.learner.Learner.first_open.Goals as goal

pub loop-variable-preserved : goal.loop-variable-preserved
loop-variable-preserved c v w e = elim (cases_eq v c.loop-variable.variable) [
  | inl same ↦ open_not_false (value_in (assigned c.args.self.now.trail) c.loop-variable.variable) c.in-Some.field-0 (subst (λ x. value_in (assigned c.args.self.now.trail) x ≡ None) same e) (sym c.in-Some.ensures)
  | inr other ↦ c.loop-variable.invariant v (omega (arith, other, w)) e
]

pub returns : goal.returns
returns c v w = c.loop-variable.invariant v (omega (arith, w, c.loop-variable-test.false, ap (λ (f : Formula). f.variables) c.formula.ensures))
