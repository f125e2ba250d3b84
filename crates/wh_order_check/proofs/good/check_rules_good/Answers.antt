use Rattle.std.proofs.Common.{◌<◌, map, length, get_or, sym, subst, arith}
use Rattle.wh_pairs.proofs.ByPlace.{read_map, map_length, number_at}
use Rattle.wh_reduction_pairs.specs.TaskView.{task_data}
use Rattle.wh_reduction_pairs.specs.ReductionPair.{IsRightRule}
use Rattle.wh_reduction_pairs.proofs.Lines.{rule_right, rules_past}
use Rattle.wh_order_inference.specs.Said.{inference}
use Rattle.wh_order_node.specs.FilteringView.{filtering_data}
use Rattle.wh_order_node.specs.Ordering.{IsGoodRule}
use Rattle.wh_poly_covering.proofs.LineLemmas.{told_of}
use Rattle.wh_poly_covering.proofs.Walks.{one_more, some_at}
use Rattle.wh_order_check.specs.OrderingFaults.{good_lines, bad_lines}
use Rattle.wh_order_check.specs.Found.{IsBadRuleOf}
use Rattle.wh_order_check.specs.declared.fault.OrderingFault.TheVariants.{BadRule}
use Rattle.wh_order_check.proofs.good.check_rules_good.Goals as goal

pub check_rule-requires-clause-narrow : goal.check_rule-requires-clause-narrow
check_rule-requires-clause-narrow c r at =
    let T = task_data c.args.task.now in
    let i = c.loop-i.i in
    let n = get_or T.covered i 0 in
    c.requires.narrow i n r (inference c.index-lines-i.result) (number_at T.covered i (omega (arith, c.loop-i-test.true, c.requires.count))) at
    (read_map inference c.args.lines.now i c.index-lines-i.result c.loop-i-test.true c.index-lines-i.is)

pub returns-in-Err-Because-clause-fault : goal.returns-in-Err-Because-clause-fault
returns-in-Err-Because-clause-fault c =
    let T = task_data c.args.task.now in
    let D = filtering_data c.args.filters.now in
    let i = c.loop-i.i in
    let n = get_or T.covered i 0 in
    let line = inference c.index-lines-i.result in
    let within : i < length T.covered = omega (arith, c.loop-i-test.true, c.requires.count) in
    let rule = some_at T.rules n (c.requires.rules i 0 within) in
    subst (λ e. IsBadRuleOf T D (map inference c.args.lines.now) (BadRule n e)) (sym c.in-Err-Because.entry-is) (
      i,
      c.loop-i.invariant,
      (
        rule.0,
        line,
        number_at T.covered i within,
        rule.1,
        read_map inference c.args.lines.now i c.index-lines-i.result c.loop-i-test.true c.index-lines-i.is,
        told_of (Unit {0}) c.in-Err-Because.field-0 c.in-Err-Because.entry (λ _. IsGoodRule T.symbols T.rules D rule.0 line)
            ((bad_lines T.symbols T.rules D).rule rule.0 line) c.in-Err-Because.field-0-is (c.in-Err-Because.ensures rule.0 rule.1),
      ),
    )

pub loop-i-preserved : goal.loop-i-preserved
loop-i-preserved c =
    let T = task_data c.args.task.now in
    let D = filtering_data c.args.filters.now in
    let lines = map inference c.args.lines.now in
    let i = c.loop-i.i in
    let n = get_or T.covered i 0 in
    let within : i < length T.covered = omega (arith, c.loop-i-test.true, c.requires.count) in
    let rule = some_at T.rules n (c.requires.rules i 0 within) in
    one_more (IsRightRule (good_lines T.symbols T.rules D) T lines) i c.loop-i.invariant
    (rule_right (good_lines T.symbols T.rules D) (bad_lines T.symbols T.rules D) T lines i n rule.0 (inference c.index-lines-i.result)
    (number_at T.covered i within) rule.1
    (read_map inference c.args.lines.now i c.index-lines-i.result c.loop-i-test.true c.index-lines-i.is) (c.in-Ok.ensures rule.0 rule.1))

pub returns-clause-ok : goal.returns-clause-ok
returns-clause-ok c =
    let T = task_data c.args.task.now in
    let D = filtering_data c.args.filters.now in
    rules_past (good_lines T.symbols T.rules D) (bad_lines T.symbols T.rules D) T (map inference c.args.lines.now) c.loop-i.i
    c.loop-i.invariant (map_length inference c.args.lines.now c.loop-i.i c.loop-i-test.false)
