use Rattle.std.proofs.Common.{◌≡◌, length, get_or, arith}
use Rattle.wh_pairs.specs.PairData.{pair_data}
use Rattle.wh_pairs.proofs.ByPlace.{number_at}
use Rattle.wh_reduction_pairs.specs.TaskView.{task_data}
use Rattle.wh_reduction_pairs.proofs.TaskLemmas.{pair_at}
use Rattle.wh_polycheck.specs.ReadingsView.{readings_data}
use Rattle.wh_poly_guesses.proofs.GuessLemmas.{space_proper, sides_at}
use Rattle.wh_poly_guesses.proofs.SetLemmas.{none_strict_more, none_strict_all}
use Rattle.wh_poly_guesses.proofs.testing.set_fails.Goals as goal

pub is_strict_pair-requires-clause-proper : goal.is_strict_pair-requires-clause-proper
is_strict_pair-requires-clause-proper c = space_proper (task_data c.args.task.now) (readings_data c.args.readings.now) c.requires.readings

pub is_strict_pair-requires-clause-sides : goal.is_strict_pair-requires-clause-sides
is_strict_pair-requires-clause-sides c =
    sides_at c.args.task.now (readings_data c.args.readings.now) c.requires.readings c.requires.task c.loop-number.number-index c.index-task-number.result
    c.loop-number-test.true

pub loop-number-preserved : goal.loop-number-preserved
loop-number-preserved c =
    let t = c.args.task.now in
    let T = task_data t in
    let i = c.loop-number.number-index in
    let n = get_or T.set i 0 in
    none_strict_more T (readings_data c.args.readings.now) i n (pair_data (get_or t.pairs.now n c.index-task-number.result))
    c.loop-number.invariant (number_at T.set i c.loop-number-test.true) (pair_at t c.requires.task.task i c.index-task-number.result c.loop-number-test.true)
    (λ met. absurd (let strict = c.in_ok-is_strict_pair.ensures.1 met in let weak = c.if-branch.false in cc))

pub returns : goal.returns
returns c =
    let T = task_data c.args.task.now in
    let all : c.loop-number.number-index ≡ length T.set = omega (arith, c.loop-number-test.false, c.loop-number.auto.number-index-end) in
    none_strict_all T (readings_data c.args.readings.now) c.loop-number.number-index c.loop-number.invariant all
