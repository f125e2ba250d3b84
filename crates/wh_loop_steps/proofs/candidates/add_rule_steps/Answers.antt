use Rattle.std.proofs.Common.{◌<◌, length, subst, arith}
use Rattle.std.proofs.lemmas.List.{take_all, get_or_default}
use Rattle.wh_terms.specs.Erase.{tm, rewrite_rules}
use Rattle.wh_loop_steps.specs.StepLists.{ListsRuleSteps}
use Rattle.wh_loop_steps.proofs.CandidateLemmas.{rule_steps_next}
use Rattle.wh_loop_steps.proofs.candidates.add_rule_steps.Goals as goal

pub loop-number-preserved : goal.loop-number-preserved
loop-number-preserved c =
    let rules = rewrite_rules c.args.rules.now in
    let t = tm c.args.term.now in
    let within : c.loop-number.number-index < length c.args.numbers.now = omega arith in
    let (before, listed) = c.loop-number.invariant in (
      λ s h. c.in_ok-add_rule_step.ensures.kept s (before s h),
      rule_steps_next rules c.args.numbers.now c.loop-number.number-index _ t c.args.way.now c.loop-number.found.items c.add_rule_step.new.found.items within (get_or_default c.args.numbers.now c.loop-number.number-index 0 _ within) listed c.in_ok-add_rule_step.ensures.kept c.in_ok-add_rule_step.ensures.listed,
    )

pub returns-clause-listed : goal.returns-clause-listed
returns-clause-listed c =
    let rules = rewrite_rules c.args.rules.now in
    let t = tm c.args.term.now in
    subst (λ l. ListsRuleSteps rules l t c.args.way.now c.loop-number.found.items) (take_all c.loop-number.number-index c.args.numbers.now (omega arith)) c.loop-number.invariant.1
