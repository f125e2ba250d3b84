use Rattle.wh_order_demands.specs.OrderDemands.{IsOrderDemand}
use Rattle.wh_order_demands.proofs.orders.orders_between.Given as goal

abbrev pub invariant-loop-third : goal.invariant-loop-third
invariant-loop-third l = IsOrderDemand l.spots l.found
