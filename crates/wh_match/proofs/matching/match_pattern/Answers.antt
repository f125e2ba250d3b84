use Rattle.std.proofs.Common.{subst₂}
use Rattle.wh_terms.specs.Erase.{tm}
use Rattle.wh_match.specs.MatchSearch.{Answers}
use Rattle.wh_match.proofs.MatchLemmas.{match_is, no_match}
use Rattle.wh_match.proofs.matching.match_pattern.Goals as goal

pub returns-then-branch : goal.returns-then-branch
returns-then-branch c =
    match_is (tm c.args.pattern.now) (tm c.args.term.now) c.match_under.new.found c.requires.linear
    (subst₂ (λ old r. Answers 0 (tm c.args.pattern.now) (tm c.args.term.now) old c.match_under.new.found r) c.new-found.ensures c.if-branch.true c.in_ok-match_under.ensures)

pub returns-else-branch : goal.returns-else-branch
returns-else-branch c =
    no_match (tm c.args.pattern.now) (tm c.args.term.now) c.match_under.new.found
    (subst₂ (λ old r. Answers 0 (tm c.args.pattern.now) (tm c.args.term.now) old c.match_under.new.found r) c.new-found.ensures c.if-branch.false c.in_ok-match_under.ensures)
