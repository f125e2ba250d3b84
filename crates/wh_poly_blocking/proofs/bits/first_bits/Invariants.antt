use Rattle.std.proofs.Common.{◌≡◌, ◌+◌, ◌^◌, ◌<◌, ◌≤◌, ℕ, length, get_or}
use Rattle.wh_poly_blocking.specs.Sizes.{first_of}
use Rattle.wh_poly_blocking.proofs.bits.first_bits.Given as goal

abbrev pub invariant-loop-size : goal.invariant-loop-size
invariant-loop-size l = record {
  count : length l.made.items ≡ l.size-index + 1;
  each : (n : ℕ) → n ≤ l.size-index → get_or l.made.items n 0 ≡ first_of l.sizes n;
  total : l.total ≡ first_of l.sizes l.size-index;
  few : l.total < 2 ^ 32;
}
