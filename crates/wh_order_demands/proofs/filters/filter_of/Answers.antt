use Rattle.wh_order_demands.proofs.FilterLemmas.{item_none, item_some}
use Rattle.wh_order_demands.proofs.filters.filter_of.Goals as goal

pub returns-in-Some : goal.returns-in-Some
returns-in-Some c = item_some c.args.spot c.in-Some.spot c.one_filter.result c.in-Some.is c.one_filter.ensures

pub returns-in-None : goal.returns-in-None
returns-in-None c = item_none c.args.spot c.in-None.is
