use Rattle.std.proofs.Common.{suc, refl, arith}
use Rattle.std.proofs.lemmas.List.{length-map}
use Rattle.wh_types.specs.Erase.{ty, tys}
use Rattle.wh_poly_space.specs.declared.space.Spot.TheVariants.{One}
use Rattle.wh_poly_space.proofs.OrderLemmas.{spots_push}
use Rattle.wh_poly_space.proofs.spots.spots_in_order.Goals as goal

pub add_products-requires-clause-spots : goal.add_products-requires-clause-spots
add_products-requires-clause-spots c =
    let scope = c.args.scope.now in
    let x = c.loop-x.x in
    spots_push (tys scope) (suc x) 0 c.loop-x.spots.items _ (One x) c.loop-x.invariant c.in_ok-push-2.ensures.items (omega (arith, length-map scope ty, c.loop-x-test.true)) refl refl
