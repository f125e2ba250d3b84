use Rattle.std.proofs.Common.{◌≡◌, ◌-◌, length}
use Rattle.wh_sat_trail.proofs.trail.Trail.settle.Given as goal

abbrev pub invariant-loop-self : goal.invariant-loop-self
invariant-loop-self l = record {
  same : l.self.formula ≡ l.initial.self.formula;
  stops : l.self.stops ≡ l.initial.self.stops;
  head : l.self.head ≡ l.initial.self.head;
  assignment : l.self.assignment ≡ l.initial.self.assignment;
}

abbrev pub decreases-loop-self : goal.decreases-loop-self
decreases-loop-self l = length l.self.short.items - l.self.settled
