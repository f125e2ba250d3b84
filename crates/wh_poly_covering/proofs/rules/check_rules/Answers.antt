use Rattle.std.proofs.Common.{◌<◌, true, false, map, length, get_or, sym, subst, arith}
use Rattle.wh_pairs.proofs.ByPlace.{read_map, map_length, number_at}
use Rattle.wh_reduction_pairs.specs.TaskView.{task_data}
use Rattle.wh_reduction_pairs.proofs.Lines.{rule_right, rules_past}
use Rattle.wh_reduction_pairs.specs.ReductionPair.{IsRightRule}
use Rattle.wh_hopoly.specs.Erase.{transfers}
use Rattle.wh_polycheck.specs.ReadingsView.{readings_data}
use Rattle.wh_polycheck.specs.Covering.{rule_run}
use Rattle.wh_polycheck.specs.Small.{with_limits}
use Rattle.wh_poly_covering.specs.CoveringFaults.{IsFirstLineFault, IsRightLine, right_lines, wrong_lines}
use Rattle.wh_poly_covering.specs.Lines.{IsFirstOfRules}
use Rattle.wh_poly_covering.specs.declared.fault.CoveringFault.TheVariants.{Rule}
use Rattle.wh_poly_covering.proofs.LineLemmas.{told_of}
use Rattle.wh_poly_covering.proofs.Walks.{one_more, some_at}
use Rattle.wh_poly_covering.proofs.rules.check_rules.Goals as goal

pub returns-in-Err-Because-clause-fault : goal.returns-in-Err-Because-clause-fault
returns-in-Err-Because-clause-fault c =
    let T = task_data c.args.task.now in
    let R = readings_data c.args.readings.now in
    let lines = map transfers c.args.lines.now in
    let ms = transfers c.index-lines-i.result in
    let i = c.loop-i.i in
    let n = get_or T.covered i 0 in
    let within : i < length T.covered = omega (arith, c.loop-i-test.true, c.requires.count) in
    let (r, at) = some_at T.rules n (c.requires.rules i 0 within) in
    let left = rule_run R r false in
    let right = rule_run R r true in
    subst (λ f. IsFirstOfRules T R lines (Rule n f)) (sym c.in-Err-Because.fault-is) (
      i,
      c.loop-i.invariant,
      (
        r,
        ms,
        number_at T.covered i within,
        at,
        read_map transfers c.args.lines.now i c.index-lines-i.result c.loop-i-test.true c.index-lines-i.is,
        told_of (Unit {0}) c.in-Err-Because.field-0 c.in-Err-Because.fault (λ _. IsRightLine with_limits left right false ms)
            (IsFirstLineFault with_limits left right false ms) c.in-Err-Because.field-0-is (c.in-Err-Because.ensures r at),
      ),
    )

pub loop-i-preserved : goal.loop-i-preserved
loop-i-preserved c =
    let T = task_data c.args.task.now in
    let R = readings_data c.args.readings.now in
    let lines = map transfers c.args.lines.now in
    let shows = right_lines with_limits T.symbols T.rules R in
    let i = c.loop-i.i in
    let n = get_or T.covered i 0 in
    let within : i < length T.covered = omega (arith, c.loop-i-test.true, c.requires.count) in
    let (r, at) = some_at T.rules n (c.requires.rules i 0 within) in
    one_more (IsRightRule shows T lines) i c.loop-i.invariant
    (rule_right shows (wrong_lines with_limits T.symbols T.rules R) T lines i n r (transfers c.index-lines-i.result)
    (number_at T.covered i within) at (read_map transfers c.args.lines.now i c.index-lines-i.result c.loop-i-test.true c.index-lines-i.is)
    (c.in-Ok.ensures r at))

pub returns-clause-ok : goal.returns-clause-ok
returns-clause-ok c =
    let T = task_data c.args.task.now in
    let R = readings_data c.args.readings.now in
    rules_past (right_lines with_limits T.symbols T.rules R) (wrong_lines with_limits T.symbols T.rules R) T (map transfers c.args.lines.now)
    c.loop-i.i c.loop-i.invariant (map_length transfers c.args.lines.now c.loop-i.i c.loop-i-test.false)
