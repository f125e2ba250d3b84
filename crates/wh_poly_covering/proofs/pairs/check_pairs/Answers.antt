use Rattle.std.proofs.Common.{◌<◌, true, false, map, length, get_or, sym, subst, arith}
use Rattle.wh_pairs.specs.PairData.{pair_data}
use Rattle.wh_pairs.proofs.ByPlace.{read_map, map_length, number_at, contains_number}
use Rattle.wh_reduction_pairs.specs.TaskView.{task_data}
use Rattle.wh_reduction_pairs.specs.ReductionPair.{IsRightPair}
use Rattle.wh_reduction_pairs.proofs.Lines.{pair_right, pairs_past}
use Rattle.wh_reduction_pairs.proofs.TaskLemmas.{pair_at}
use Rattle.wh_hopoly.specs.Erase.{transfers}
use Rattle.wh_polycheck.specs.ReadingsView.{readings_data}
use Rattle.wh_polycheck.specs.Covering.{pair_run}
use Rattle.wh_polycheck.specs.Small.{with_limits}
use Rattle.wh_poly_covering.specs.CoveringFaults.{IsFirstLineFault, IsRightLine, right_lines, wrong_lines}
use Rattle.wh_poly_covering.specs.Lines.{IsFirstOfPairs}
use Rattle.wh_poly_covering.specs.declared.fault.CoveringFault.TheVariants.{Pair}
use Rattle.wh_poly_covering.proofs.LineLemmas.{told_of}
use Rattle.wh_poly_covering.proofs.Walks.{one_more}
use Rattle.wh_poly_covering.proofs.pairs.check_pairs.Goals as goal

pub check_pair-requires-clause-sides : goal.check_pair-requires-clause-sides
check_pair-requires-clause-sides c =
    let T = task_data c.args.task.now in
    let i = c.loop-i.i in
    let n = get_or T.set i 0 in
    let within : i < length T.set = omega (arith, c.loop-i-test.true, c.requires.count) in
    c.requires.sides n (pair_data (get_or c.args.task.now.pairs.now n c.index-task-number.result)) (contains_number T.set i within)
    (pair_at c.args.task.now c.requires.task i c.index-task-number.result within)

pub returns-in-Err-Because-clause-fault : goal.returns-in-Err-Because-clause-fault
returns-in-Err-Because-clause-fault c =
    let T = task_data c.args.task.now in
    let R = readings_data c.args.readings.now in
    let lines = map transfers c.args.lines.now in
    let i = c.loop-i.i in
    let n = get_or T.set i 0 in
    let p = pair_data (get_or c.args.task.now.pairs.now n c.index-task-number.result) in
    let ms = transfers c.index-lines-i.result in
    let strict = c.is_dropped-strict.result in
    let left = pair_run T.symbols T.rules R p false in
    let right = pair_run T.symbols T.rules R p true in
    let within : i < length T.set = omega (arith, c.loop-i-test.true, c.requires.count) in
    subst (λ f. IsFirstOfPairs T R lines c.args.drop.now (Pair n f)) (sym c.in-Err-Because.fault-is) (
      i,
      c.loop-i.invariant,
      (
        p,
        ms,
        strict,
        number_at T.set i within,
        pair_at c.args.task.now c.requires.task i c.index-task-number.result within,
        read_map transfers c.args.lines.now i c.index-lines-i.result c.loop-i-test.true c.index-lines-i.is,
        c.is_dropped-strict.ensures,
        told_of (Unit {0}) c.in-Err-Because.field-0 c.in-Err-Because.fault (λ _. IsRightLine with_limits left right strict ms)
            (IsFirstLineFault with_limits left right strict ms) c.in-Err-Because.field-0-is c.in-Err-Because.ensures,
      ),
    )

pub loop-i-preserved : goal.loop-i-preserved
loop-i-preserved c =
    let T = task_data c.args.task.now in
    let R = readings_data c.args.readings.now in
    let lines = map transfers c.args.lines.now in
    let shows = right_lines with_limits T.symbols T.rules R in
    let i = c.loop-i.i in
    let n = get_or T.set i 0 in
    let within : i < length T.set = omega (arith, c.loop-i-test.true, c.requires.count) in
    one_more (IsRightPair shows T lines c.args.drop.now) i c.loop-i.invariant
    (pair_right shows (wrong_lines with_limits T.symbols T.rules R) T lines c.args.drop.now i n (pair_data (get_or c.args.task.now.pairs.now n c.index-task-number.result))
    (transfers c.index-lines-i.result) c.is_dropped-strict.result (number_at T.set i within)
    (pair_at c.args.task.now c.requires.task i c.index-task-number.result within) (read_map transfers c.args.lines.now i c.index-lines-i.result c.loop-i-test.true c.index-lines-i.is)
    c.is_dropped-strict.ensures c.in-Ok.ensures)

pub returns-clause-ok : goal.returns-clause-ok
returns-clause-ok c =
    let T = task_data c.args.task.now in
    let R = readings_data c.args.readings.now in
    pairs_past (right_lines with_limits T.symbols T.rules R) (wrong_lines with_limits T.symbols T.rules R) T (map transfers c.args.lines.now)
    c.args.drop.now c.loop-i.i c.loop-i.invariant (map_length transfers c.args.lines.now c.loop-i.i c.loop-i-test.false)
