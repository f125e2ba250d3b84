use Rattle.std.proofs.Common.{◌≡◌, ◌≤◌, ◌+◌, ◌++◌, [], length, map, ap, sym, ◌∙◌, subst, arith}
use Rattle.wh_terms.specs.Erase.{tm, rewrite_rule, rewrite_rules}
use Rattle.wh_step.specs.Enumerations.{Enumerates}
use Rattle.wh_step.specs.Contracta.{results_of}
use Rattle.wh_step.proofs.RedexLemmas.{rule_now, rules_counted}
use Rattle.wh_step.proofs.RootLaws.{rule_made}
use Rattle.wh_step.proofs.EnumerationLaws.{IsRootStepBelow, roots_begin_with, roots_next_with, roots_end}
use Rattle.wh_step.proofs.reducing.root_reducts.Goals as goal

pub loop-rule-init : goal.loop-rule-init
loop-rule-init c =
    let rules = rewrite_rules c.args.rules.now in
    let t = tm c.args.term.now in
    let nothing : map tm c.new.result.items ≡ [] = ap (map tm) c.new.ensures.items in
    let found : map tm c.in_ok-found.found.items ≡ map tm c.new.result.items ++ results_of c.beta_step.result = c.in_ok-found.ensures in
    subst (Enumerates (IsRootStepBelow 0 rules t)) (sym (found ∙ ap (λ us. us ++ results_of c.beta_step.result) nothing)) (roots_begin_with rules t c.beta_step.result c.beta_step.ensures)

pub rule_step-requires-clause-well_made : goal.rule_step-requires-clause-well_made
rule_step-requires-clause-well_made c =
    let (S, made) = c.requires.well_made in
    (S, rule_made S made c.loop-rule.rule-index (rewrite_rule c.rule-item.result) (rule_now c.args.rules.now c.loop-rule.rule-index c.rule-item.result c.loop-rule-test.true c.rule-item.is))

pub loop-rule-preserved : goal.loop-rule-preserved
loop-rule-preserved c =
    let rules = rewrite_rules c.args.rules.now in
    let t = tm c.args.term.now in
    let i = c.loop-rule.rule-index in
    subst (Enumerates (IsRootStepBelow (i + 1) rules t)) (sym c.in_ok-found-2.ensures)
    (roots_next_with rules t i (rewrite_rule c.rule-item.result) (map tm c.loop-rule.found.items) c.in_ok-rule_step.field-0 (rule_now c.args.rules.now i c.rule-item.result c.loop-rule-test.true c.rule-item.is)
    c.in_ok-rule_step.ensures c.loop-rule.invariant)

pub returns : goal.returns
returns c =
    let rules = rewrite_rules c.args.rules.now in
    let all : length rules ≤ c.loop-rule.rule-index = omega (arith, rules_counted c.args.rules.now) in
    roots_end rules (tm c.args.term.now) c.loop-rule.rule-index (map tm c.loop-rule.found.items) all c.loop-rule.invariant
