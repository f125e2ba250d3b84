use Rattle.std.proofs.Common.{◌≡◌, ◌++◌, map, take}
use Rattle.wh_poly_space.specs.Spots.{spot_of_two}
use Rattle.wh_poly_space.proofs.spots.add_row.Given as goal

abbrev pub invariant-loop-y : goal.invariant-loop-y
invariant-loop-y l = l.spots.items ≡ l.initial.spots.items ++ map (spot_of_two l.x) (take l.y-index l.others)
