use Rattle.std.proofs.Common.{suc}
use Rattle.wh_types.specs.Erase.{tys}
use Rattle.wh_poly_space.specs.Spots.{AreSpotsTo}
use Rattle.wh_poly_space.proofs.spots.spots_in_order.Given as goal

abbrev pub invariant-loop-x : goal.invariant-loop-x
invariant-loop-x l = AreSpotsTo (tys l.scope) (suc l.x) 0 l.spots.items
