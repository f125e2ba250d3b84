use Rattle.std.proofs.Common.{◌≡◌, subst, true, false}
use Rattle.std.specs.Prelude.{MatchOption}
use Rattle.wh_terms.specs.Erase.{tm, rewrite_rule}
use Rattle.wh_match.specs.Matching.{IsMatch, HasNoMatch}
use Rattle.wh_step.proofs.RedexLemmas.{no_step_of_other_head, manageable_left, match_instance, match_step}
use Rattle.wh_step.proofs.redex.rule_step.Goals as goal

pub returns-then-not-same_head : goal.returns-then-not-same_head
returns-then-not-same_head c =
    let (S, made) = c.requires.well_made in
    no_step_of_other_head S (rewrite_rule c.args.rule.now) made (tm c.args.term.now) (λ h. let wrong : false ≡ true = c.if-not-same_head.ensures.1 h in absurd (cc))

pub match_pattern-requires-clause-pattern_in_range :
    goal.match_pattern-requires-clause-pattern_in_range
match_pattern-requires-clause-pattern_in_range c = let (S, made) = c.requires.well_made in manageable_left S (rewrite_rule c.args.rule.now) made

pub returns-in-Some : goal.returns-in-Some
returns-in-Some c =
    let (S, made) = c.requires.well_made in
    let r = rewrite_rule c.args.rule.now in
    let t = tm c.args.term.now in
    let found : IsMatch r.left t c.in-Some.bodies = subst (λ o. MatchOption o (HasNoMatch r.left t) (IsMatch r.left t)) c.in-Some.is c.in_ok-bodies.ensures in
    (match_instance S r made t c.in-Some.bodies found c.requires.plain, match_step S r made t c.in-Some.bodies found)
