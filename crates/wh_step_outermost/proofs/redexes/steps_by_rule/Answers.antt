use Rattle.std.proofs.Common.{◌≡◌, true, false}
use Rattle.wh_terms.specs.Erase.{tm, rewrite_rule}
use Rattle.wh_step.proofs.RedexLemmas.{no_step_of_other_head, manageable_left, match_step}
use Rattle.wh_step_outermost.proofs.RootSearch.{StepsByRule, it_is_not, told_rule}
use Rattle.wh_step_outermost.proofs.redexes.steps_by_rule.Goals as goal

pub returns-then-not-same_head : goal.returns-then-not-same_head
returns-then-not-same_head c =
    let (S, made) = c.requires.well_made in
    let r = rewrite_rule c.args.rule.now in
    let t = tm c.args.term.now in
    it_is_not (StepsByRule r t) (λ (v, step). no_step_of_other_head S r made t (λ h. let wrong : false ≡ true = c.if-not-same_head.ensures.1 h in absurd (cc)) v step)

pub match_pattern-requires-clause-pattern_in_range :
    goal.match_pattern-requires-clause-pattern_in_range
match_pattern-requires-clause-pattern_in_range c = let (S, made) = c.requires.well_made in manageable_left S (rewrite_rule c.args.rule.now) made

pub returns : goal.returns
returns c =
    let (S, made) = c.requires.well_made in
    let r = rewrite_rule c.args.rule.now in
    let t = tm c.args.term.now in
    told_rule r t c.in_ok-match_pattern.field-0 c.is_some.result c.is_some.ensures (λ bs found. (_, match_step S r made t bs found)) c.in_ok-match_pattern.ensures
