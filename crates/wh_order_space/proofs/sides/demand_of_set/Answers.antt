use Rattle.wh_reduction_pairs.specs.TaskView.{task_data}
use Rattle.wh_order_space.proofs.SideLemmas.{set_both, set_orders, set_told}
use Rattle.wh_order_space.proofs.sides.demand_of_set.Goals as goal

pub returns : goal.returns
returns c =
    let T = task_data c.args.task.now in
    let spots = c.args.spots.now in
    set_told T spots c.in_ok-lines.lines c.in_ok-further.further c.both-4.result
    (set_both T spots c.in_ok-all.all c.in_ok-some.some c.in_ok-lines.lines
    (set_both T spots c.in_ok-rules.rules c.in_ok-pairs.pairs c.in_ok-all.all c.in_ok-rules.ensures c.in_ok-pairs.ensures c.in_ok-all.ensures)
    c.in_ok-some.ensures c.in_ok-lines.ensures)
    (set_both T spots c.in_ok-filters.filters c.in_ok-orders.orders c.in_ok-further.further (set_orders T spots c.in_ok-filters.filters c.in_ok-filters.ensures)
    (set_orders T spots c.in_ok-orders.orders c.in_ok-orders.ensures) c.in_ok-further.ensures)
    c.both-4.ensures
