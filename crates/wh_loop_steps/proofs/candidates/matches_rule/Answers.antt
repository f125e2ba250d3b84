use Rattle.wh_terms.specs.Erase.{rewrite_rule}
use Rattle.wh_step.proofs.RedexLemmas.{manageable_left}
use Rattle.wh_loop_steps.proofs.candidates.matches_rule.Goals as goal

pub match_pattern-requires-clause-pattern_in_range :
    goal.match_pattern-requires-clause-pattern_in_range
match_pattern-requires-clause-pattern_in_range c = let (S, made) = c.requires.well_made in manageable_left S (rewrite_rule c.args.rule.now) made
