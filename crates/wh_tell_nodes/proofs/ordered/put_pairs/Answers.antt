use Rattle.std.proofs.Common.{get_or}
use Rattle.wh_pairs.proofs.ByPlace.{contains_at}
use Rattle.wh_reduction_pairs.specs.TaskView.{task_data}
use Rattle.wh_reduction_pairs.proofs.TaskLemmas.{pair_at}
use Rattle.wh_tell_nodes.proofs.ordered.put_pairs.Goals as goal

pub filtered_pair-requires-clause-typed : goal.filtered_pair-requires-clause-typed
filtered_pair-requires-clause-typed c =
    let T = task_data c.args.task.now in
    let i = c.loop-i.i in
    let n = get_or T.set i 0 in
    c.requires.calls _ (contains_at T.pairs n _ (pair_at c.args.task.now c.requires.task.task i c.index-task-number.result c.loop-i-test.true))

pub filtered_pair-requires-in-loop-i-clause-typed : goal.filtered_pair-requires-in-loop-i-clause-typed
filtered_pair-requires-in-loop-i-clause-typed c =
    let T = task_data c.args.task.now in
    let i = c.loop-i.i in
    let n = get_or T.set i 0 in
    c.requires.calls _ (contains_at T.pairs n _ (pair_at c.args.task.now c.requires.task.task i c.index-task-number.result c.loop-i-test.true))
