use Rattle.std.proofs.Common.{◌-◌, length, get_or, arith}
use Rattle.wh_pairs.proofs.ByPlace.{number_at}
use Rattle.wh_reduction_pairs.specs.TaskView.{task_data}
use Rattle.wh_reduction_pairs.proofs.TaskLemmas.{pair_at}
use Rattle.wh_polycheck.specs.ReadingsView.{readings_data}
use Rattle.wh_poly_covering.proofs.Walks.{some_at}
use Rattle.wh_poly_guesses.specs.Tasks.{guess_data}
use Rattle.wh_poly_guesses.proofs.GuessLemmas.{readings_are, readings_in, space_proper, sides_at}
use Rattle.wh_poly_guesses.proofs.ToldLemmas.{rule_told, pair_told, set_told}
use Rattle.wh_poly_guesses.proofs.testing.fails.Goals as goal

pub rule_fails-requires-clause-proper : goal.rule_fails-requires-clause-proper
rule_fails-requires-clause-proper c =
    let t = c.args.task.now in
    let r = c.readings-readings.result in
    space_proper (task_data t) (readings_data r)
    (readings_in t r c.args.guess.now c.requires.guess c.readings-readings.ensures.symbols c.readings-readings.ensures.marks)

pub rule_fails-requires-clause-rule : goal.rule_fails-requires-clause-rule
rule_fails-requires-clause-rule c = c.requires.task.typed.task.are_rules c.args.number 0 c.if-number-rules.true

pub pair_fails-requires-clause-proper : goal.pair_fails-requires-clause-proper
pair_fails-requires-clause-proper c =
    let t = c.args.task.now in
    let r = c.readings-readings.result in
    space_proper (task_data t) (readings_data r)
    (readings_in t r c.args.guess.now c.requires.guess c.readings-readings.ensures.symbols c.readings-readings.ensures.marks)

pub pair_fails-requires-clause-sides : goal.pair_fails-requires-clause-sides
pair_fails-requires-clause-sides c =
    let t = c.args.task.now in
    let r = c.readings-readings.result in
    sides_at t (readings_data r) (readings_in t r c.args.guess.now c.requires.guess c.readings-readings.ensures.symbols c.readings-readings.ensures.marks)
    c.requires.task.typed (c.args.number - length t.covered.now) c.index-task-task.result c.if-place-task.true

pub set_fails-requires-clause-readings : goal.set_fails-requires-clause-readings
set_fails-requires-clause-readings c =
    readings_in c.args.task.now c.readings-readings.result c.args.guess.now c.requires.guess c.readings-readings.ensures.symbols c.readings-readings.ensures.marks

pub returns-then-number-rules : goal.returns-then-number-rules
returns-then-number-rules c =
    let t = c.args.task.now in
    let T = task_data t in
    let k = c.args.number in
    let g = c.args.guess.now in
    let r = c.readings-readings.result in
    let same = readings_are r g c.readings-readings.ensures.symbols c.readings-readings.ensures.marks in
    let (rule, at) = some_at T.rules (get_or T.covered k 0) (c.requires.task.typed.task.are_rules k 0 c.if-number-rules.true) in
    rule_told T (readings_data r) (guess_data g) same k c.rule_fails.result (get_or T.covered k 0) rule (number_at T.covered k c.if-number-rules.true) at
    (c.rule_fails.ensures rule at)

pub returns-then-place-task : goal.returns-then-place-task
returns-then-place-task c =
    let t = c.args.task.now in
    let T = task_data t in
    let g = c.args.guess.now in
    let r = c.readings-readings.result in
    let same = readings_are r g c.readings-readings.ensures.symbols c.readings-readings.ensures.marks in
    let i = c.args.number - length t.covered.now in
    pair_told T (readings_data r) (guess_data g) same c.args.number c.pair_fails.result i (get_or T.set i 0) _ (omega (arith, c.if-number-rules.false))
    (number_at T.set i c.if-place-task.true) (pair_at t c.requires.task.typed.task i c.index-task-task.result c.if-place-task.true) c.pair_fails.ensures

pub returns-then-place-task-2 : goal.returns-then-place-task-2
returns-then-place-task-2 c =
    let t = c.args.task.now in
    let g = c.args.guess.now in
    let r = c.readings-readings.result in
    let same = readings_are r g c.readings-readings.ensures.symbols c.readings-readings.ensures.marks in
    set_told (task_data t) (readings_data r) (guess_data g) same c.args.number c.set_fails.result
    (omega (arith, c.if-number-rules.false, c.if-place-task-2.true)) c.set_fails.ensures
