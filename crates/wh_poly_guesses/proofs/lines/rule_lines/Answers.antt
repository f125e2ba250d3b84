use Rattle.std.proofs.Common.{◌≡◌, length, get_or, arith}
use Rattle.wh_pairs.proofs.ByPlace.{number_at}
use Rattle.wh_reduction_pairs.specs.TaskView.{task_data}
use Rattle.wh_polycheck.specs.ReadingsView.{readings_data}
use Rattle.wh_poly_covering.proofs.Walks.{some_at}
use Rattle.wh_poly_guesses.specs.Lines.{IsLineOfRule, IsUncoveredRule}
use Rattle.wh_poly_guesses.proofs.GuessLemmas.{space_proper}
use Rattle.wh_poly_guesses.proofs.LineLemmas.{matched_some, matched_none, rule_lines_more, rule_lines_all}
use Rattle.wh_poly_guesses.proofs.lines.rule_lines.Goals as goal

pub rule_line-requires-clause-proper : goal.rule_line-requires-clause-proper
rule_line-requires-clause-proper c = space_proper (task_data c.args.task.now) (readings_data c.args.readings.now) c.requires.readings

pub rule_line-requires-clause-rule : goal.rule_line-requires-clause-rule
rule_line-requires-clause-rule c = c.requires.task.task.are_rules c.loop-i.i 0 c.loop-i-test.true

pub loop-i-preserved : goal.loop-i-preserved
loop-i-preserved c =
    let T = task_data c.args.task.now in
    let R = readings_data c.args.readings.now in
    let i = c.loop-i.i in
    rule_lines_more T R i (get_or T.covered i 0) c.loop-i.lines c.push.new.self c.in-Some.moves c.loop-i.invariant c.in_ok-push.ensures.ok
    (number_at T.covered i c.loop-i-test.true)
    (λ r at. matched_some c.in_ok-moves.field-0 c.in-Some.moves (IsUncoveredRule R r) (IsLineOfRule R r) c.in-Some.is (c.in_ok-moves.ensures r at))

pub returns : goal.returns
returns c =
    let T = task_data c.args.task.now in
    let all : c.loop-i.i ≡ length T.covered = omega (arith, c.loop-i-test.false, c.loop-i.auto.i-end) in
    rule_lines_all T (readings_data c.args.readings.now) c.loop-i.i c.loop-i.lines c.loop-i.invariant all

pub returns-in_default : goal.returns-in_default
returns-in_default c =
    let T = task_data c.args.task.now in
    let R = readings_data c.args.readings.now in
    let i = c.loop-i.i in
    let n = get_or T.covered i 0 in
    let (r, at) = some_at T.rules n (c.requires.task.task.are_rules i 0 c.loop-i-test.true) in (
      n,
      r,
      number_at T.covered i c.loop-i-test.true,
      at,
      matched_none c.in_ok-moves.field-0 (IsUncoveredRule R r) (IsLineOfRule R r) c.in_default.is (c.in_ok-moves.ensures r at),
    )
