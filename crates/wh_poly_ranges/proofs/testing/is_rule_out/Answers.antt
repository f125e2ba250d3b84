use Rattle.std.proofs.Common.{◌∙◌, true, false, length, ap}
use Rattle.wh_poly.specs.Erase.{poly}
use Rattle.wh_reduction_pairs.specs.TaskView.{task_data}
use Rattle.wh_polycheck.specs.ReadingsView.{readings_data}
use Rattle.wh_polycheck.specs.Covering.{rule_run}
use Rattle.wh_poly_covering.specs.Lines.{IsSide}
use Rattle.wh_poly_guesses.specs.Lines.{HasNoSide}
use Rattle.wh_poly_guesses.proofs.LineLemmas.{matched_some}
use Rattle.wh_poly_guesses.proofs.GuessLemmas.{space_proper}
use Rattle.wh_poly_ranges.proofs.OutLemmas.{refuted_same, metas_of_rule}
use Rattle.wh_poly_ranges.proofs.testing.is_rule_out.Goals as goal

pub rule_side-requires-clause-proper : goal.rule_side-requires-clause-proper
rule_side-requires-clause-proper c = space_proper (task_data c.args.task.now) (readings_data c.args.ends.now.high) c.requires.high

pub rule_side-requires-2-clause-proper : goal.rule_side-requires-2-clause-proper
rule_side-requires-2-clause-proper c = space_proper (task_data c.args.task.now) (readings_data c.args.ends.now.low) c.requires.low

pub returns : goal.returns
returns c r at =
    let left = rule_run (readings_data c.args.ends.now.high) r false in
    let right = rule_run (readings_data c.args.ends.now.low) r true in
    let is_left = matched_some c.in_ok-left.field-0 c.in-Some.left (HasNoSide left) (λ p. IsSide left (poly p)) c.in-Some.is
    (c.in_ok-left.ensures r at) in
    let is_right = matched_some c.in_ok-right.field-0 c.in-Some-2.right (HasNoSide right) (λ p. IsSide right (poly p))
    c.in-Some-2.is (c.in_ok-right.ensures r at) in
    refuted_same c.is_refuted.result (length c.as_slice-variables.result.now) (length r.metas)
    (poly c.in-Some.left) (poly c.in-Some-2.right) left.result right.result false
    (ap length c.as_slice-variables.ensures
    ∙ metas_of_rule c.rules.result.now (task_data c.args.task.now).rules c.args.rule c.index-rules-rule.result r c.rules.ensures at)
    is_left.is is_right.is c.is_refuted.ensures
