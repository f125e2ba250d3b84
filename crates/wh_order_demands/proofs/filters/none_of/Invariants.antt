use Rattle.wh_order_demands.specs.OrderDemands.{IsNoneSet}
use Rattle.wh_order_demands.proofs.filters.none_of.Given as goal

abbrev pub invariant-loop-place : goal.invariant-loop-place
invariant-loop-place l = IsNoneSet l.first l.place l.found
