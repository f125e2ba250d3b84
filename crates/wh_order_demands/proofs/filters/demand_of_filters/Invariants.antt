use Rattle.wh_order_demands.specs.OrderDemands.{IsOrderDemand}
use Rattle.wh_order_demands.proofs.filters.demand_of_filters.Given as goal

abbrev pub invariant-loop-spot : goal.invariant-loop-spot
invariant-loop-spot l = IsOrderDemand l.spots l.found
