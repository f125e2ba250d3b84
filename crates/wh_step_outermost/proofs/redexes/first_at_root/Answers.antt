use Rattle.std.proofs.Common.{◌≡◌, ◌≤◌, length, true, arith}
use Rattle.wh_terms.specs.Erase.{tm, rewrite_rule, rewrite_rules}
use Rattle.wh_step.proofs.RedexLemmas.{rule_now, rules_counted}
use Rattle.wh_step.proofs.RootLaws.{rule_made}
use Rattle.wh_step_outermost.proofs.RootSearch.{none_by_next, none_at_all, first_by_rule}
use Rattle.wh_step_outermost.proofs.redexes.first_at_root.Goals as goal

pub steps_by_rule-requires-clause-well_made : goal.steps_by_rule-requires-clause-well_made
steps_by_rule-requires-clause-well_made c =
    let (S, made) = c.requires.well_made in
    let r = rewrite_rule c.index-rules-i.result in
    (S, rule_made S made c.loop-i.i r (rule_now c.args.rules.now c.loop-i.i c.index-rules-i.result c.loop-i-test.true c.index-rules-i.is))

pub returns-then-branch : goal.returns-then-branch
returns-then-branch c =
    let rules = rewrite_rules c.args.rules.now in
    let t = tm c.args.term.now in
    let r = rewrite_rule c.index-rules-i.result in
    first_by_rule rules t c.loop-i.i r (rule_now c.args.rules.now c.loop-i.i c.index-rules-i.result c.loop-i-test.true c.index-rules-i.is) c.loop-i.invariant (c.in_ok-steps_by_rule.ensures.0 c.if-branch.true)
    c.in_ok-counted.field-0 c.in_ok-counted.ensures

pub loop-i-preserved : goal.loop-i-preserved
loop-i-preserved c =
    let rules = rewrite_rules c.args.rules.now in
    let t = tm c.args.term.now in
    let r = rewrite_rule c.index-rules-i.result in
    none_by_next rules t c.loop-i.i r (rule_now c.args.rules.now c.loop-i.i c.index-rules-i.result c.loop-i-test.true c.index-rules-i.is) c.loop-i.invariant
    (λ step. let yes : c.in_ok-steps_by_rule.field-0 ≡ true = c.in_ok-steps_by_rule.ensures.1 step in absurd (cc (c.if-branch.false)))

pub returns : goal.returns
returns c =
    let rules = rewrite_rules c.args.rules.now in
    let all : length rules ≤ c.loop-i.i = omega (arith, rules_counted c.args.rules.now) in
    none_at_all rules (tm c.args.term.now) c.loop-i.i all c.loop-i.invariant
