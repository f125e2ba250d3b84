use Rattle.std.proofs.Common.{get_or}
use Rattle.wh_pairs.specs.PairData.{pair_data}
use Rattle.wh_pairs.proofs.ByPlace.{number_at, before_more, before_all}
use Rattle.wh_reduction_pairs.specs.TaskView.{task_data}
use Rattle.wh_reduction_pairs.proofs.TaskLemmas.{pair_at}
use Rattle.wh_usable.specs.Closed.{IsClosedPair}
use Rattle.wh_usable.proofs.Firsts.{IsAt, is_at, first_not}
use Rattle.wh_usable.proofs.closed.first_open_pair.Goals as goal

pub returns-then-not-is_closed_pair : goal.returns-then-not-is_closed_pair
returns-then-not-is_closed_pair c =
    let T = task_data c.args.task.now in
    let i = c.loop-number.number-index in
    let n = get_or T.set i 0 in
    let p = pair_data (get_or c.args.task.now.pairs.now n c.index-task-number.result) in
    first_not (IsClosedPair T.symbols T.rules T.covered) T.pairs T.set i n p (number_at T.set i c.loop-number-test.true)
    (pair_at c.args.task.now c.requires.task i c.index-task-number.result c.loop-number-test.true)
    c.loop-number.invariant (λ closed. cc ((c.is_closed_pair.ensures T.covered c.requires.table).1 closed, c.if-not-is_closed_pair.true))

pub loop-number-preserved : goal.loop-number-preserved
loop-number-preserved c =
    let T = task_data c.args.task.now in
    let i = c.loop-number.number-index in
    let n = get_or T.set i 0 in
    let p = pair_data (get_or c.args.task.now.pairs.now n c.index-task-number.result) in
    let Q = IsClosedPair T.symbols T.rules T.covered in
    before_more (IsAt Q T.pairs) T.set i n c.loop-number.invariant (number_at T.set i c.loop-number-test.true)
    (is_at Q T.pairs n p (pair_at c.args.task.now c.requires.task i c.index-task-number.result c.loop-number-test.true)
    ((c.is_closed_pair.ensures T.covered c.requires.table).0 c.if-not-is_closed_pair.false))

pub returns : goal.returns
returns c p inside =
    let T = task_data c.args.task.now in
    let (n, found, at) = inside in
    before_all (IsAt (IsClosedPair T.symbols T.rules T.covered) T.pairs) T.set c.loop-number.number-index n c.loop-number.invariant
    c.loop-number-test.false found p at
