use Rattle.std.proofs.Common.{◌<◌, length, get_or, map, arith}
use Rattle.wh_pairs.proofs.ByPlace.{read_map, map_length, number_at}
use Rattle.wh_reduction_pairs.specs.TaskView.{task_data}
use Rattle.wh_reduction_pairs.specs.ReductionPair.{IsRightPair}
use Rattle.wh_reduction_pairs.proofs.Lines.{pair_right, pairs_past}
use Rattle.wh_order_inference.specs.Said.{inference}
use Rattle.wh_poly_covering.proofs.Walks.{one_more, some_at}
use Rattle.wh_order_check.specs.OrderingFaults.{strict_lines, weak_lines}
use Rattle.wh_order_check.proofs.strict.check_pairs_strict.Goals as goal

pub returns-then-not-is_strict_where-clause-fault : goal.returns-then-not-is_strict_where-clause-fault
returns-then-not-is_strict_where-clause-fault c =
    let T = task_data c.args.task.now in
    let i = c.loop-i.i in
    let n = get_or T.set i 0 in
    let within : i < length T.set = omega (arith, c.loop-i-test.true, c.requires.count) in
    let pair = some_at T.pairs n (c.requires.task.within i 0 within) in (
      i,
      c.loop-i.invariant,
      (
        pair.0,
        inference c.index-lines-i.result,
        c.is_dropped-dropped.result,
        number_at T.set i within,
        pair.1,
        read_map inference c.args.lines.now i c.index-lines-i.result c.loop-i-test.true c.index-lines-i.is,
        c.is_dropped-dropped.ensures,
        (λ strict. cc (c.is_strict_where.ensures.1 strict, c.if-not-is_strict_where.true)),
      ),
    )

pub loop-i-preserved : goal.loop-i-preserved
loop-i-preserved c =
    let T = task_data c.args.task.now in
    let lines = map inference c.args.lines.now in
    let i = c.loop-i.i in
    let n = get_or T.set i 0 in
    let within : i < length T.set = omega (arith, c.loop-i-test.true, c.requires.count) in
    let pair = some_at T.pairs n (c.requires.task.within i 0 within) in
    one_more (IsRightPair strict_lines T lines c.args.drop.now) i c.loop-i.invariant
    (pair_right strict_lines weak_lines T lines c.args.drop.now i n pair.0 (inference c.index-lines-i.result) c.is_dropped-dropped.result
    (number_at T.set i within) pair.1
    (read_map inference c.args.lines.now i c.index-lines-i.result c.loop-i-test.true c.index-lines-i.is) c.is_dropped-dropped.ensures
    (c.is_strict_where.ensures.0 c.if-not-is_strict_where.false))

pub returns-clause-ok : goal.returns-clause-ok
returns-clause-ok c =
    pairs_past strict_lines weak_lines (task_data c.args.task.now) (map inference c.args.lines.now) c.args.drop.now c.loop-i.i c.loop-i.invariant
    (map_length inference c.args.lines.now c.loop-i.i c.loop-i-test.false)
