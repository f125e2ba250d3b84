use Rattle.wh_order_demands.proofs.OrderLemmas.{always_met, join_met}
use Rattle.wh_order_demands.proofs.orders.demand_of_orders.Goals as goal

pub loop-init : goal.loop-init
loop-init c = always_met c.args.spots.now

pub loop-preserved : goal.loop-preserved
loop-preserved c =
    join_met c.args.spots.now c.loop.found c.in_ok-own.own c.in_ok-found.found c.loop.invariant c.in_ok-own.ensures c.in_ok-found.ensures
