use Rattle.wh_order_demands.specs.OrderDemands.{IsOrderDemand}
use Rattle.wh_order_demands.proofs.orders.orders_around.Given as goal

abbrev pub invariant-loop-second : goal.invariant-loop-second
invariant-loop-second l = IsOrderDemand l.spots l.found
