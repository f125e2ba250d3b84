use Rattle.std.proofs.Common.{◌≡◌, ◌+◌, ◌^◌, ◌<◌, ◌≤◌, ℕ, length, get_or}
use Rattle.wh_order_space.specs.Bits.{first_bit}
use Rattle.wh_order_space.specs.Spotted.{types_in}
use Rattle.wh_order_space.proofs.firsts.first_bits.Given as goal

abbrev pub invariant-loop-scope : goal.invariant-loop-scope
invariant-loop-scope l = record {
  count : length l.made.items ≡ l.scope-index + 1;
  each : (n : ℕ) → n ≤ l.scope-index → get_or l.made.items n 0 ≡ first_bit l.width (types_in l.scopes) n;
  total : l.total ≡ first_bit l.width (types_in l.scopes) l.scope-index;
  few : l.total < 2 ^ 32;
}
