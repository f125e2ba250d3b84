use Rattle.std.proofs.Common.{◌<◌, map, length, get_or, arith}
use Rattle.wh_pairs.proofs.ByPlace.{map_length, number_at}
use Rattle.wh_reduction_pairs.specs.TaskView.{task_data}
use Rattle.wh_reduction_pairs.specs.ReductionPair.{IsRightRule}
use Rattle.wh_reduction_pairs.proofs.Lines.{rule_right, rules_past}
use Rattle.wh_order_inference.specs.Said.{inference}
use Rattle.std.proofs.lemmas.List.{length-map}
use Rattle.wh_poly_covering.proofs.Walks.{one_more, some_at}
use Rattle.wh_order_check.specs.OrderingFaults.{narrow_lines, wide_lines}
use Rattle.wh_order_check.proofs.narrow.check_rules_narrow.Goals as goal

pub returns-then-not-branch-clause-fault : goal.returns-then-not-branch-clause-fault
returns-then-not-branch-clause-fault c =
    let T = task_data c.args.task.now in
    let lines = map inference c.args.lines.now in
    let i = c.loop-i.i in
    let n = get_or T.covered i 0 in
    let within : i < length T.covered = omega (arith, c.loop-i-test.true, c.requires.count) in
    let rule = some_at T.rules n (c.requires.rules i 0 within) in
    let line = some_at lines i (omega (arith, c.loop-i-test.true, length-map c.args.lines.now inference)) in (
      i,
      c.loop-i.invariant,
      (rule.0, line.0, number_at T.covered i within, rule.1, line.1, (λ narrow. cc ((c.in_ok-is_narrow_rule.ensures rule.0 rule.1).1 narrow, c.if-not-branch.true))),
    )

pub loop-i-preserved : goal.loop-i-preserved
loop-i-preserved c =
    let T = task_data c.args.task.now in
    let lines = map inference c.args.lines.now in
    let i = c.loop-i.i in
    let n = get_or T.covered i 0 in
    let within : i < length T.covered = omega (arith, c.loop-i-test.true, c.requires.count) in
    let rule = some_at T.rules n (c.requires.rules i 0 within) in
    let line = some_at lines i (omega (arith, c.loop-i-test.true, length-map c.args.lines.now inference)) in
    one_more (IsRightRule (narrow_lines T.symbols) T lines) i c.loop-i.invariant
    (rule_right (narrow_lines T.symbols) (wide_lines T.symbols) T lines i n rule.0 line.0 (number_at T.covered i within) rule.1 line.1 ((c.in_ok-is_narrow_rule.ensures rule.0 rule.1).0 c.if-not-branch.false))

pub returns-clause-ok : goal.returns-clause-ok
returns-clause-ok c =
    let T = task_data c.args.task.now in
    rules_past (narrow_lines T.symbols) (wide_lines T.symbols) T (map inference c.args.lines.now) c.loop-i.i c.loop-i.invariant
    (map_length inference c.args.lines.now c.loop-i.i c.loop-i-test.false)
