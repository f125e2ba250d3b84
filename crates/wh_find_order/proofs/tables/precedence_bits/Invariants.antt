use Rattle.std.proofs.Common.{◌≡◌, ◌+◌, ◌-◌, ◌≤◌}
use Rattle.wh_order_space.specs.Bits.{binary_length}
use Rattle.wh_find_order.proofs.tables.precedence_bits.Given as goal

abbrev pub invariant-loop-left : goal.invariant-loop-left
invariant-loop-left l = record {
  few : l.bits + l.left ≤ l.symbols;
  small : l.left ≤ l.symbols;
  count : l.bits + binary_length l.symbols l.left ≡ binary_length l.symbols (l.symbols - 1);
}

abbrev pub decreases-loop-left : goal.decreases-loop-left
decreases-loop-left l = l.left
