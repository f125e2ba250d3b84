use Rattle.std.proofs.Common.{◌<◌, ℕ, [], get_or, length}
use Rattle.wh_sat_trail.specs.Look.{Looks}
use Rattle.wh_sat_trail.specs.declared.look.Look.TheVariants.{Quiet}
use Rattle.wh_sat_trail.proofs.trail.Trail.find.Given as goal

abbrev pub invariant-loop-place : goal.invariant-loop-place
invariant-loop-place l = (i : ℕ) → i < l.place → get_or l.self.short.items i 0 < length l.self.formula.clauses → Looks l.self.assignment.literals.items (get_or l.self.formula.clauses (get_or l.self.short.items i 0) []) Quiet
