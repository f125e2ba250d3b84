use Rattle.std.proofs.Common.{◌≡◌, length, take, vec_len}
use Rattle.wh_sat_trail.proofs.assignment.Assignment.truncate.Given as goal

abbrev pub invariant-loop-self : goal.invariant-loop-self
invariant-loop-self l = record {
  front : take l.keep l.self.literals.items ≡ take l.keep l.initial.self.literals.items;
  width : vec_len l.self.values ≡ vec_len l.initial.self.values;
}

abbrev pub decreases-loop-self : goal.decreases-loop-self
decreases-loop-self l = length l.self.literals.items
