use Rattle.std.proofs.Common.{◌-◌, nat_eq, length, get_or, arith}
use Rattle.wh_pairs.proofs.ByPlace.{contains_number}
use Rattle.wh_reduction_pairs.specs.TaskView.{task_data}
use Rattle.wh_polycheck.specs.ReadingsView.{readings_data}
use Rattle.wh_poly_covering.proofs.Walks.{some_at}
use Rattle.wh_poly_guesses.proofs.GuessLemmas.{readings_are, readings_in}
use Rattle.wh_poly_ranges.proofs.OutLemmas.{out_by_rule, out_by_pair}
use Rattle.wh_poly_ranges.proofs.testing.is_out.Goals as goal

pub is_rule_out-requires-clause-low : goal.is_rule_out-requires-clause-low
is_rule_out-requires-clause-low c =
    readings_in c.args.task.now c.readings.result c.args.ranges.now.low.guess c.requires.ranges.low.guess c.readings.ensures.symbols c.readings.ensures.marks

pub is_rule_out-requires-clause-high : goal.is_rule_out-requires-clause-high
is_rule_out-requires-clause-high c =
    readings_in c.args.task.now c.readings-2.result c.args.ranges.now.high.guess c.requires.ranges.high.guess c.readings-2.ensures.symbols c.readings-2.ensures.marks

pub is_pair_out-requires-clause-low : goal.is_pair_out-requires-clause-low
is_pair_out-requires-clause-low c =
    readings_in c.args.task.now c.readings.result c.args.ranges.now.low.guess c.requires.ranges.low.guess c.readings.ensures.symbols c.readings.ensures.marks

pub is_pair_out-requires-clause-high : goal.is_pair_out-requires-clause-high
is_pair_out-requires-clause-high c =
    readings_in c.args.task.now c.readings-2.result c.args.ranges.now.high.guess c.requires.ranges.high.guess c.readings-2.ensures.symbols c.readings-2.ensures.marks

pub returns-then-goal-rules : goal.returns-then-goal-rules
returns-then-goal-rules c =
    let t = c.args.task.now in
    let T = task_data t in
    let r = c.args.ranges.now in
    let k = c.args.goal.number in
    let low = c.readings.result in
    let high = c.readings-2.result in
    let n = get_or T.covered k 0 in
    let (rule, at) = some_at T.rules n (c.requires.task.typed.task.are_rules k 0 c.if-goal-rules.true) in
    out_by_rule t r c.requires.ranges (readings_data low) (readings_data high)
    (readings_are low r.low.guess c.readings.ensures.symbols c.readings.ensures.marks)
    (readings_are high r.high.guess c.readings-2.ensures.symbols c.readings-2.ensures.marks)
    c.args.goal.strict c.is_rule_out.result c.is_well_made.ensures n rule (contains_number T.covered k c.if-goal-rules.true) at (c.is_rule_out.ensures rule at)

pub returns-then-place-task : goal.returns-then-place-task
returns-then-place-task c =
    let t = c.args.task.now in
    let r = c.args.ranges.now in
    let low = c.readings.result in
    let high = c.readings-2.result in
    let i = c.args.goal.number - length t.covered.now in
    out_by_pair t r c.requires.ranges (readings_data low) (readings_data high)
    (readings_are low r.low.guess c.readings.ensures.symbols c.readings.ensures.marks)
    (readings_are high r.high.guess c.readings-2.ensures.symbols c.readings-2.ensures.marks)
    c.args.goal.strict c.is_pair_out.result c.requires.task i (nat_eq i c.args.goal.strict) (λ e. grind (arith, e)) c.is_pair_out.ensures
