use Rattle.std.proofs.Common.{◌<◌, map, length, get_or, arith}
use Rattle.std.proofs.lemmas.List.{length-map}
use Rattle.wh_pairs.specs.PairData.{pair_data}
use Rattle.wh_pairs.proofs.ByPlace.{map_length, number_at, contains_at}
use Rattle.wh_reduction_pairs.specs.TaskView.{task_data}
use Rattle.wh_reduction_pairs.specs.ReductionPair.{IsRightPair}
use Rattle.wh_reduction_pairs.proofs.Lines.{pair_right, pairs_past, dropped_or_not}
use Rattle.wh_reduction_pairs.proofs.TaskLemmas.{pair_at}
use Rattle.wh_order_inference.specs.Said.{inference}
use Rattle.wh_poly_covering.proofs.Walks.{one_more, some_at}
use Rattle.wh_order_check.specs.OrderingFaults.{narrow_lines, wide_lines}
use Rattle.wh_order_check.proofs.narrow.check_pairs_narrow.Goals as goal

pub is_narrow_pair-requires-clause-typed : goal.is_narrow_pair-requires-clause-typed
is_narrow_pair-requires-clause-typed c =
    let T = task_data c.args.task.now in
    let i = c.loop-i.i in
    let n = get_or T.set i 0 in
    let within : i < length T.set = omega (arith, c.loop-i-test.true, c.requires.count) in
    c.requires.typed _ (contains_at T.pairs n _ (pair_at c.args.task.now c.requires.task i c.index-task-number.result within))

pub returns-then-not-branch-clause-fault : goal.returns-then-not-branch-clause-fault
returns-then-not-branch-clause-fault c =
    let T = task_data c.args.task.now in
    let lines = map inference c.args.lines.now in
    let i = c.loop-i.i in
    let n = get_or T.set i 0 in
    let within : i < length T.set = omega (arith, c.loop-i-test.true, c.requires.count) in
    let asked = dropped_or_not c.args.drop.now n in
    let line = some_at lines i (omega (arith, c.loop-i-test.true, length-map c.args.lines.now inference)) in (
      i,
      c.loop-i.invariant,
      (
        pair_data (get_or c.args.task.now.pairs.now n c.index-task-number.result),
        line.0,
        asked.0,
        number_at T.set i within,
        pair_at c.args.task.now c.requires.task i c.index-task-number.result within,
        line.1,
        asked.1,
        (λ narrow. cc (c.in_ok-is_narrow_pair.ensures.1 narrow, c.if-not-branch.true)),
      ),
    )

pub loop-i-preserved : goal.loop-i-preserved
loop-i-preserved c =
    let T = task_data c.args.task.now in
    let lines = map inference c.args.lines.now in
    let i = c.loop-i.i in
    let n = get_or T.set i 0 in
    let within : i < length T.set = omega (arith, c.loop-i-test.true, c.requires.count) in
    let asked = dropped_or_not c.args.drop.now n in
    let line = some_at lines i (omega (arith, c.loop-i-test.true, length-map c.args.lines.now inference)) in
    one_more (IsRightPair (narrow_lines T.symbols) T lines c.args.drop.now) i c.loop-i.invariant
    (pair_right (narrow_lines T.symbols) (wide_lines T.symbols) T lines c.args.drop.now i n
    (pair_data (get_or c.args.task.now.pairs.now n c.index-task-number.result)) line.0 asked.0 (number_at T.set i within)
    (pair_at c.args.task.now c.requires.task i c.index-task-number.result within) line.1 asked.1 (c.in_ok-is_narrow_pair.ensures.0 c.if-not-branch.false))

pub returns-clause-ok : goal.returns-clause-ok
returns-clause-ok c =
    let T = task_data c.args.task.now in
    pairs_past (narrow_lines T.symbols) (wide_lines T.symbols) T (map inference c.args.lines.now) c.args.drop.now c.loop-i.i c.loop-i.invariant
    (map_length inference c.args.lines.now c.loop-i.i c.loop-i-test.false)
