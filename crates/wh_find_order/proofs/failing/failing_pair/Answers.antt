use Rattle.wh_order_node.specs.FilteringView.{filtering_data}
use Rattle.wh_find_order.specs.Encodings.{task_in}
use Rattle.wh_find_order.proofs.NodeLemmas.{pair_fails}
use Rattle.wh_find_order.proofs.SearchLemmas.{typed_calls}
use Rattle.wh_find_order.proofs.failing.failing_pair.Goals as goal

pub lacks_pair_line-requires-clause-typed : goal.lacks_pair_line-requires-clause-typed
lacks_pair_line-requires-clause-typed c =
    let T = task_in c.args.encoding.now in typed_calls T.symbols T.rules T.pairs c.requires.encoding.task.typed.typed

pub returns-then-lacks : goal.returns-then-lacks
returns-then-lacks c =
    pair_fails (task_in c.args.encoding.now) (filtering_data c.args.filters.now) c.loop-place.place c.number_of_pair-number.result
    (c.in_ok-lacks.ensures.0 c.if-lacks.true) c.number_of_pair-number.ensures
