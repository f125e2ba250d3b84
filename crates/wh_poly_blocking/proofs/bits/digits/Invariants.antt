use Rattle.std.proofs.Common.{◌≡◌, ◌+◌, ◌*◌, ◌-◌, ◌++◌}
use Rattle.wh_poly_blocking.specs.Bits as written
use Rattle.wh_poly_blocking.specs.Sizes.{value_of}
use Rattle.wh_poly_blocking.proofs.bits.digits.Given as goal

abbrev pub invariant-loop-place : goal.invariant-loop-place
invariant-loop-place l =
    l.made.items ++ written.digits (value_of l.values) (l.from + 2 * l.place) (l.count - l.place) ≡ written.digits (value_of l.values) l.from l.count
