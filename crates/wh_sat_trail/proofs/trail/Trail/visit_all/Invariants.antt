use Rattle.std.proofs.Common.{◌≡◌, ◌-◌, length}
use Rattle.wh_sat_trail.specs.Propagation.{Grows}
use Rattle.wh_sat_trail.specs.Visit.{PendingIn, list_of}
use Rattle.wh_sat_trail.specs.Watch.{Turn}
use Rattle.wh_sat_trail.proofs.trail.Trail.visit_all.Given as goal

abbrev pub invariant-loop-at : goal.invariant-loop-at
invariant-loop-at l = record {
  same : l.self.formula ≡ l.initial.self.formula;
  stops : l.self.stops.items ≡ l.initial.self.stops.items;
  head : l.self.head ≡ l.initial.self.head;
  grows : Grows l.initial.self.formula.clauses l.initial.self.assignment.literals.items l.self.assignment.literals.items;
  turn : Turn l.self.assignment.literals.items l.self.head l.falsified;
  pending : PendingIn l.self l.falsified l.at;
}

abbrev pub decreases-loop-at : goal.decreases-loop-at
decreases-loop-at l = length (list_of l.self l.falsified) - l.at
