use Rattle.wh_order_demands.proofs.OrderLemmas.{always_met, join_met}
use Rattle.wh_order_demands.proofs.orders.orders_around.Goals as goal

pub loop-second-init : goal.loop-second-init
loop-second-init c = always_met c.args.spots.now

pub loop-second-preserved : goal.loop-second-preserved
loop-second-preserved c =
    join_met c.args.spots.now c.loop-second.found c.in_ok-own.own c.in_ok-found.found c.loop-second.invariant c.in_ok-own.ensures c.in_ok-found.ensures
