use Rattle.wh_order_demands.specs.OrderDemands.{IsOrderDemand}
use Rattle.wh_order_demands.proofs.orders.demand_of_orders.Given as goal

abbrev pub invariant-loop : goal.invariant-loop
invariant-loop l = IsOrderDemand l.spots l.found
