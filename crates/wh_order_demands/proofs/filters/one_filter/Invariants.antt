use Rattle.wh_order_demands.specs.OrderDemands.{IsFilterDemand}
use Rattle.wh_order_demands.proofs.filters.one_filter.Given as goal

abbrev pub invariant-loop-place : goal.invariant-loop-place
invariant-loop-place l = IsFilterDemand l.spot l.found
