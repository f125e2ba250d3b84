use Rattle.std.proofs.Common.{◌≡◌, ◌+◌, ◌++◌, drop, map}
use Rattle.wh_poly_blocking.specs.Sizes.{bits_in, lists_of, value_of}
use Rattle.wh_poly_blocking.proofs.bits.lists_by.Given as goal

abbrev pub invariant-loop-size : goal.invariant-loop-size
invariant-loop-size l = record {
  room : l.from + bits_in (drop l.size-index l.sizes) ≡ bits_in l.sizes;
  lists : map (λ l. l.items) l.made.items ++ lists_of (value_of l.values) l.from (drop l.size-index l.sizes) ≡ lists_of (value_of l.values) 0 l.sizes;
}
