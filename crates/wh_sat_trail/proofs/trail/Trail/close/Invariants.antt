use Rattle.std.proofs.Common.{◌≡◌, ◌-◌, length}
use Rattle.wh_sat_trail.specs.Propagation.{Grows}
use Rattle.wh_sat_trail.proofs.trail.Trail.close.Given as goal

abbrev pub invariant-loop-number : goal.invariant-loop-number
invariant-loop-number l = record {
  same : l.self.formula ≡ l.initial.self.formula;
  stops : l.self.stops.items ≡ l.initial.self.stops.items;
  grows : Grows l.initial.self.formula.clauses l.initial.self.assignment.literals.items l.self.assignment.literals.items;
}

abbrev pub decreases-loop-number : goal.decreases-loop-number
decreases-loop-number l = l.self.formula.variables - length l.self.assignment.literals.items
