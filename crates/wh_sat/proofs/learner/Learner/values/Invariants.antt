use Rattle.std.proofs.Common.{false, ◌≡◌, ℕ, ◌<◌, length, get_or}
use Rattle.std.specs.Option.{unwrap_or}
use Rattle.wh_sat_trail.specs.Assignment.{value_in}
use Rattle.wh_sat_trail.specs.State.{assigned}
use Rattle.wh_sat.proofs.learner.Learner.values.Given as goal

abbrev pub invariant-loop-variable : goal.invariant-loop-variable
invariant-loop-variable l = record {
  long : length l.values.items ≡ l.variable;
  same : (v : ℕ) → v < l.variable → get_or l.values.items v false ≡ unwrap_or (value_in (assigned l.self.trail) v) false;
}
