use Rattle.std.proofs.Common.{◌≡◌, map, replicate, take}
use Rattle.wh_poly_ranges.specs.Bounds.{lists_in}
use Rattle.wh_poly_ranges.proofs.bounds.all_equal.Given as goal

abbrev pub invariant-loop-size : goal.invariant-loop-size
invariant-loop-size l = lists_in l.lists.items ≡ map (λ size. replicate size l.value) (take l.size-index l.sizes)
