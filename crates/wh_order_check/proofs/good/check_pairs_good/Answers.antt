use Rattle.std.proofs.Common.{◌<◌, map, length, get_or, sym, subst, arith}
use Rattle.wh_pairs.specs.PairData.{pair_data}
use Rattle.wh_pairs.proofs.ByPlace.{read_map, map_length, number_at, contains_at}
use Rattle.wh_reduction_pairs.specs.TaskView.{task_data}
use Rattle.wh_reduction_pairs.specs.ReductionPair.{IsRightPair}
use Rattle.wh_reduction_pairs.proofs.Lines.{pair_right, pairs_past, dropped_or_not}
use Rattle.wh_reduction_pairs.proofs.TaskLemmas.{pair_at}
use Rattle.wh_order_inference.specs.Said.{inference}
use Rattle.wh_order_node.specs.FilteringView.{filtering_data}
use Rattle.wh_order_node.specs.Ordering.{IsGoodPair}
use Rattle.wh_poly_covering.proofs.LineLemmas.{told_of}
use Rattle.wh_poly_covering.proofs.Walks.{one_more}
use Rattle.wh_order_check.specs.OrderingFaults.{good_lines, bad_lines}
use Rattle.wh_order_check.specs.Found.{IsBadPairOf}
use Rattle.wh_order_check.specs.declared.fault.OrderingFault.TheVariants.{BadPair}
use Rattle.wh_order_check.proofs.good.check_pairs_good.Goals as goal

pub check_pair-requires-clause-typed : goal.check_pair-requires-clause-typed
check_pair-requires-clause-typed c =
    let T = task_data c.args.task.now in
    let i = c.loop-i.i in
    let n = get_or T.set i 0 in
    let within : i < length T.set = omega (arith, c.loop-i-test.true, c.requires.count) in
    c.requires.typed _ (contains_at T.pairs n _ (pair_at c.args.task.now c.requires.task i c.index-task-number.result within))

pub check_pair-requires-clause-narrow : goal.check_pair-requires-clause-narrow
check_pair-requires-clause-narrow c =
    let T = task_data c.args.task.now in
    let i = c.loop-i.i in
    let n = get_or T.set i 0 in
    let within : i < length T.set = omega (arith, c.loop-i-test.true, c.requires.count) in
    let asked = dropped_or_not c.args.drop.now n in
    c.requires.narrow i n (pair_data (get_or c.args.task.now.pairs.now n c.index-task-number.result)) (inference c.index-lines-i.result) asked.0
    (number_at T.set i within) (pair_at c.args.task.now c.requires.task i c.index-task-number.result within)
    (read_map inference c.args.lines.now i c.index-lines-i.result c.loop-i-test.true c.index-lines-i.is) asked.1

pub returns-in-Err-Because-clause-fault : goal.returns-in-Err-Because-clause-fault
returns-in-Err-Because-clause-fault c =
    let T = task_data c.args.task.now in
    let D = filtering_data c.args.filters.now in
    let i = c.loop-i.i in
    let n = get_or T.set i 0 in
    let p = pair_data (get_or c.args.task.now.pairs.now n c.index-task-number.result) in
    let line = inference c.index-lines-i.result in
    let asked = dropped_or_not c.args.drop.now n in
    let within : i < length T.set = omega (arith, c.loop-i-test.true, c.requires.count) in
    subst (λ e. IsBadPairOf T D (map inference c.args.lines.now) c.args.drop.now (BadPair n e)) (sym c.in-Err-Because.entry-is) (
      i,
      c.loop-i.invariant,
      (
        p,
        line,
        asked.0,
        number_at T.set i within,
        pair_at c.args.task.now c.requires.task i c.index-task-number.result within,
        read_map inference c.args.lines.now i c.index-lines-i.result c.loop-i-test.true c.index-lines-i.is,
        asked.1,
        told_of (Unit {0}) c.in-Err-Because.field-0 c.in-Err-Because.entry (λ _. IsGoodPair T.symbols T.rules D p line)
            ((bad_lines T.symbols T.rules D).pair p asked.0 line) c.in-Err-Because.field-0-is c.in-Err-Because.ensures,
      ),
    )

pub loop-i-preserved : goal.loop-i-preserved
loop-i-preserved c =
    let T = task_data c.args.task.now in
    let D = filtering_data c.args.filters.now in
    let lines = map inference c.args.lines.now in
    let i = c.loop-i.i in
    let n = get_or T.set i 0 in
    let asked = dropped_or_not c.args.drop.now n in
    let within : i < length T.set = omega (arith, c.loop-i-test.true, c.requires.count) in
    one_more (IsRightPair (good_lines T.symbols T.rules D) T lines c.args.drop.now) i c.loop-i.invariant
    (pair_right (good_lines T.symbols T.rules D) (bad_lines T.symbols T.rules D) T lines c.args.drop.now i n
    (pair_data (get_or c.args.task.now.pairs.now n c.index-task-number.result)) (inference c.index-lines-i.result) asked.0
    (number_at T.set i within) (pair_at c.args.task.now c.requires.task i c.index-task-number.result within)
    (read_map inference c.args.lines.now i c.index-lines-i.result c.loop-i-test.true c.index-lines-i.is) asked.1 c.in-Ok.ensures)

pub returns-clause-ok : goal.returns-clause-ok
returns-clause-ok c =
    let T = task_data c.args.task.now in
    let D = filtering_data c.args.filters.now in
    pairs_past (good_lines T.symbols T.rules D) (bad_lines T.symbols T.rules D) T (map inference c.args.lines.now) c.args.drop.now
    c.loop-i.i c.loop-i.invariant (map_length inference c.args.lines.now c.loop-i.i c.loop-i-test.false)
