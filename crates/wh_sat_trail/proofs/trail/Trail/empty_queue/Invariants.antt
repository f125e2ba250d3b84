use Rattle.std.proofs.Common.{◌≡◌, ◌-◌}
use Rattle.wh_sat_trail.specs.Propagation.{Grows}
use Rattle.wh_sat_trail.proofs.trail.Trail.empty_queue.Given as goal

abbrev pub invariant-loop-self : goal.invariant-loop-self
invariant-loop-self l = record {
  same : l.self.formula ≡ l.initial.self.formula;
  stops : l.self.stops.items ≡ l.initial.self.stops.items;
  grows : Grows l.initial.self.formula.clauses l.initial.self.assignment.literals.items l.self.assignment.literals.items;
}

abbrev pub decreases-loop-self : goal.decreases-loop-self
decreases-loop-self l = l.self.formula.variables - l.self.head
