use Rattle.std.proofs.Common.{suc}
use Rattle.wh_types.specs.Erase.{tys}
use Rattle.wh_poly_space.specs.Spots.{AreSpotsTo}
use Rattle.wh_poly_space.proofs.spots.add_products.Given as goal

abbrev pub invariant-loop-y : goal.invariant-loop-y
invariant-loop-y l = AreSpotsTo (tys l.scope) (suc l.x) (suc l.y) l.spots.items
