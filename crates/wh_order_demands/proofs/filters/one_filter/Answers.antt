use Rattle.wh_order_demands.proofs.FilterLemmas.{filter_free, filter_join}
use Rattle.wh_order_demands.proofs.filters.one_filter.Goals as goal

pub loop-place-init : goal.loop-place-init
loop-place-init c = filter_free c.args.spot

pub loop-place-preserved : goal.loop-place-preserved
loop-place-preserved c =
    filter_join c.args.spot c.loop-place.found c.in_ok-own.own c.in_ok-found.found c.loop-place.invariant c.in_ok-own.ensures c.in_ok-found.ensures
