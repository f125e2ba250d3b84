use Rattle.std.proofs.Common.{◌≡◌, ◌+◌, ◌-◌, ◌++◌, suc}
use Rattle.wh_poly_blocking.specs.Sizes.{value_of}
use Rattle.wh_order_space.specs.Bits.{places_from}
use Rattle.wh_find_order.proofs.filters.places_by.Given as goal

abbrev pub invariant-loop-place : goal.invariant-loop-place
invariant-loop-place l =
    l.made ++ places_from (value_of l.values) (l.from + l.place) (suc l.place) (l.count - l.place) ≡ places_from (value_of l.values) l.from 1 l.count
