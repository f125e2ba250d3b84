use Rattle.std.proofs.Common.{get_or}
use Rattle.wh_pairs.specs.PairData.{pair_data}
use Rattle.wh_pairs.proofs.ByPlace.{contains_number}
use Rattle.wh_reduction_pairs.specs.TaskView.{task_data}
use Rattle.wh_reduction_pairs.proofs.TaskLemmas.{pair_at}
use Rattle.wh_tell_nodes.proofs.values.put_pairs.Goals as goal

pub pair_side-requires-clause-sides : goal.pair_side-requires-clause-sides
pair_side-requires-clause-sides c =
    let T = task_data c.args.task.now in
    let i = c.loop-i.i in
    let n = get_or T.set i 0 in
    c.requires.sides n (pair_data (get_or c.args.task.now.pairs.now n c.index-task-number.result)) (contains_number T.set i c.loop-i-test.true)
    (pair_at c.args.task.now c.requires.task.task i c.index-task-number.result c.loop-i-test.true)

pub pair_side-requires-in-loop-i-clause-sides : goal.pair_side-requires-in-loop-i-clause-sides
pair_side-requires-in-loop-i-clause-sides c =
    let T = task_data c.args.task.now in
    let i = c.loop-i.i in
    let n = get_or T.set i 0 in
    c.requires.sides n (pair_data (get_or c.args.task.now.pairs.now n c.index-task-number.result)) (contains_number T.set i c.loop-i-test.true)
    (pair_at c.args.task.now c.requires.task.task i c.index-task-number.result c.loop-i-test.true)
