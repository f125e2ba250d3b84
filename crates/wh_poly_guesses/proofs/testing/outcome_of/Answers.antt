use Rattle.std.proofs.Common.{◌-◌, length}
use Rattle.wh_reduction_pairs.specs.TaskView.{task_data}
use Rattle.wh_polycheck.specs.ReadingsView.{readings_data}
use Rattle.wh_poly_guesses.proofs.GuessLemmas.{readings_in, space_proper, sides_at}
use Rattle.wh_poly_guesses.proofs.testing.outcome_of.Goals as goal

pub rule_outcome-requires-clause-proper : goal.rule_outcome-requires-clause-proper
rule_outcome-requires-clause-proper c =
    let t = c.args.task.now in
    let r = c.readings-readings.result in
    space_proper (task_data t) (readings_data r)
    (readings_in t r c.args.guess.now c.requires.guess c.readings-readings.ensures.symbols c.readings-readings.ensures.marks)

pub rule_outcome-requires-clause-rule : goal.rule_outcome-requires-clause-rule
rule_outcome-requires-clause-rule c = c.requires.task.typed.task.are_rules c.args.number 0 c.if-number-rules.true

pub pair_outcome-requires-clause-proper : goal.pair_outcome-requires-clause-proper
pair_outcome-requires-clause-proper c =
    let t = c.args.task.now in
    let r = c.readings-readings.result in
    space_proper (task_data t) (readings_data r)
    (readings_in t r c.args.guess.now c.requires.guess c.readings-readings.ensures.symbols c.readings-readings.ensures.marks)

pub pair_outcome-requires-clause-sides : goal.pair_outcome-requires-clause-sides
pair_outcome-requires-clause-sides c =
    let t = c.args.task.now in
    let r = c.readings-readings.result in
    sides_at t (readings_data r) (readings_in t r c.args.guess.now c.requires.guess c.readings-readings.ensures.symbols c.readings-readings.ensures.marks)
    c.requires.task.typed (c.args.number - length t.covered.now) c.index-task-task.result c.if-place-task.true
