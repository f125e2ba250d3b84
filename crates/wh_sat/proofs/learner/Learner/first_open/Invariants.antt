use Rattle.std.proofs.Common.{None, ◌≡◌, ℕ, ◌<◌}
use Rattle.wh_sat_trail.specs.Assignment.{value_in}
use Rattle.wh_sat_trail.specs.State.{assigned}
use Rattle.wh_sat.proofs.learner.Learner.first_open.Given as goal

abbrev pub invariant-loop-variable : goal.invariant-loop-variable
invariant-loop-variable l = (v : ℕ) → v < l.variable → value_in (assigned l.self.trail) v ≡ None → ⊥
