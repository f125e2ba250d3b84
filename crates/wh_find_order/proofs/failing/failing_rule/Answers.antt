use Rattle.wh_order_node.specs.FilteringView.{filtering_data}
use Rattle.wh_find_order.specs.Encodings.{task_in}
use Rattle.wh_find_order.proofs.NodeLemmas.{rule_fails}
use Rattle.wh_find_order.proofs.failing.failing_rule.Goals as goal

pub returns-then-lacks : goal.returns-then-lacks
returns-then-lacks c =
    rule_fails (task_in c.args.encoding.now) (filtering_data c.args.filters.now) c.loop-place.place
    (c.in_ok-lacks.ensures.0 c.if-lacks.true)
