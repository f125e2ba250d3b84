use Rattle.std.proofs.Common.{◌≡◌, ℕ, ◌<◌, ◌≤◌, [], get_or, length, true}
use Rattle.wh_poly_blocking.specs.Sizes.{value_of}
use Rattle.wh_sat.specs.Solving.{clause_true}
use Rattle.wh_find_order.proofs.chance.Chance.are_true.Given as goal

abbrev pub invariant-loop-left : goal.invariant-loop-left
invariant-loop-left l = record {
  within : l.left ≤ length l.clauses;
  passed : (k : ℕ) → l.left ≤ k → k < length l.clauses → clause_true (value_of l.values) (get_or l.clauses k []) ≡ true;
}

abbrev pub decreases-loop-left : goal.decreases-loop-left
decreases-loop-left l = l.left
