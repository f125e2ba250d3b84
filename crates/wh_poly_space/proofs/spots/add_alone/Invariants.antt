use Rattle.std.proofs.Common.{◌≡◌, ◌++◌, map, take}
use Rattle.wh_poly_space.specs.declared.space.Spot.TheVariants.{One}
use Rattle.wh_poly_space.proofs.spots.add_alone.Given as goal

abbrev pub invariant-loop-x : goal.invariant-loop-x
invariant-loop-x l = l.spots.items ≡ l.initial.spots.items ++ map One (take l.x-index l.variables)
