use Rattle.wh_order_demands.proofs.OrderLemmas.{always_met}
use Rattle.wh_order_demands.proofs.FilterLemmas.{filter_joins}
use Rattle.wh_order_demands.proofs.filters.demand_of_filters.Goals as goal

pub loop-spot-init : goal.loop-spot-init
loop-spot-init c = always_met c.args.spots.now

pub loop-spot-preserved : goal.loop-spot-preserved
loop-spot-preserved c =
    filter_joins c.args.spots.now c.loop-spot.spot-index c.loop-spot.found c.in_ok-own.own c.in_ok-found.found c.loop-spot.invariant c.in_ok-own.ensures c.in_ok-found.ensures
