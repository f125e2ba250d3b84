use Rattle.wh_order_demands.proofs.OrderLemmas.{join_met}
use Rattle.wh_order_demands.proofs.orders.orders_between.Goals as goal

pub loop-third-preserved : goal.loop-third-preserved
loop-third-preserved c =
    join_met c.args.spots.now c.loop-third.found c.in_ok-own.own c.in_ok-found.found c.loop-third.invariant c.in_ok-own.ensures c.in_ok-found.ensures
