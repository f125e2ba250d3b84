use Rattle.std.proofs.Common.{◌≡◌, Some, slice_get, length, refl, true, subst}
use Rattle.std.proofs.lemmas.Option.{slice_get_read}
use Rattle.wh_terms.specs.Erase.{tm, rewrite_rule, rewrite_rules}
use Rattle.wh_step.specs.Roots.{RuleStep}
use Rattle.wh_step.proofs.RedexLemmas.{rule_here}
use Rattle.wh_step.proofs.RootLaws.{rule_made, same_rule}
use Rattle.wh_loop_steps.proofs.candidates.add_rule_step.Goals as goal

pub matches_rule-requires-clause-well_made : goal.matches_rule-requires-clause-well_made
matches_rule-requires-clause-well_made c =
    let (S, made) = c.requires.well_made in
    let rule = c.in-Some.rule.now in
    let rules = c.args.rules.now in
    let k = c.args.number in
    (S, rule_made S made k (rewrite_rule rule) (rule_here rules k rule (slice_get_read rules (length rules) k rule refl c.in-Some.ensures.lookup.3.0 c.in-Some.ensures.lookup.1)))

pub returns-else-branch-clause-listed : goal.returns-else-branch-clause-listed
returns-else-branch-clause-listed c r v e step =
    let rule = c.in-Some.rule.now in
    let rules = c.args.rules.now in
    let k = c.args.number in
    let here : slice_get (rewrite_rules rules) k ≡ Some (rewrite_rule rule) = rule_here rules k rule (slice_get_read rules (length rules) k rule refl c.in-Some.ensures.lookup.3.0 c.in-Some.ensures.lookup.1) in
    let same : r ≡ rewrite_rule rule = same_rule (rewrite_rules rules) k (rewrite_rule rule) r here e in
    let yes : c.in_ok-matches_rule.field-0 ≡ true = c.in_ok-matches_rule.ensures v (subst (λ q. RuleStep q (tm c.args.term.now) v) same step) in
    absurd (cc)
