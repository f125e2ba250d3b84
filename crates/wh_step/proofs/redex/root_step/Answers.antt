use Rattle.std.proofs.Common.{◌≡◌, Some, slice_get, length, refl}
use Rattle.std.proofs.lemmas.Option.{slice_get_read}
use Rattle.wh_terms.specs.Erase.{tm, rewrite_rule, rewrite_rules}
use Rattle.wh_step.proofs.RedexLemmas.{rule_here, told_by_rule, no_step_by_rule}
use Rattle.wh_step.proofs.RootLaws.{rule_made}
use Rattle.wh_step.proofs.redex.root_step.Goals as goal

pub rule_step-requires-clause-well_made : goal.rule_step-requires-clause-well_made
rule_step-requires-clause-well_made c =
    let (S, made) = c.requires.well_made in
    let rule = c.in-Some-get.rule.now in
    let rules = c.args.rules.now in
    let k = c.in-Some.number in
    (S, rule_made S made k (rewrite_rule rule) (rule_here rules k rule (slice_get_read rules (length rules) k rule refl c.in-Some-get.ensures.lookup.3.0 c.in-Some-get.ensures.lookup.1)))

pub returns-in-Some-get : goal.returns-in-Some-get
returns-in-Some-get c =
    let rule = c.in-Some-get.rule.now in
    let rules = c.args.rules.now in
    let k = c.in-Some.number in
    let here : slice_get (rewrite_rules rules) k ≡ Some (rewrite_rule rule) = rule_here rules k rule (slice_get_read rules (length rules) k rule refl c.in-Some-get.ensures.lookup.3.0 c.in-Some-get.ensures.lookup.1) in
    told_by_rule rules k rule c.args.rule (tm c.args.term.now) c.rule_step.result here c.in-Some.is c.rule_step.ensures

pub returns-in-None-get : goal.returns-in-None-get
returns-in-None-get c = no_step_by_rule c.args.rules.now c.in-Some.number c.args.rule (tm c.args.term.now) c.in-None-get.ensures.lookup.3 c.in-Some.is
