use Rattle.std.proofs.Common.{subst}
use Rattle.wh_order_demands.specs.Views.{IsSpotOf}
use Rattle.wh_order_demands.proofs.OrderLemmas.{bit_is}
use Rattle.wh_order_demands.proofs.between.bit_between.Goals as goal

pub returns-in_ok-order_bit-in-Some-Some : goal.returns-in_ok-order_bit-in-Some-Some
returns-in_ok-order_bit-in-Some-Some c =
    let spots = c.args.spots.now in
    let w = c.in-Some-Some in
    bit_is spots c.args.first c.args.second w.spot c.spot_of-2.result _ c.in_ok-order_bit-in-Some-Some.field-0 (subst (IsSpotOf spots c.args.first) w.is-0 c.spot_of.ensures) w.is-1 c.spot_of-2.ensures
    c.in_ok-order_bit-in-Some-Some.ensures
