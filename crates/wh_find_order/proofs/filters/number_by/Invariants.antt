use Rattle.std.proofs.Common.{◌≡◌, ◌+◌, ◌-◌, ◌≤◌}
use Rattle.wh_poly_blocking.specs.Sizes.{value_of}
use Rattle.wh_order_space.specs.Bits.{number_from}
use Rattle.wh_find_order.proofs.filters.number_by.Given as goal

abbrev pub invariant-loop-left : goal.invariant-loop-left
invariant-loop-left l = record {
  within : l.left ≤ l.count;
  number : l.number ≡ number_from (value_of l.values) (l.from + l.left) (l.count - l.left);
}

abbrev pub decreases-loop-left : goal.decreases-loop-left
decreases-loop-left l = l.left
