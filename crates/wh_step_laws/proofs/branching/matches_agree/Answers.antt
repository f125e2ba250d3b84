-- At each meta-variable's place the body can be read off the value.
use Rattle.wh_match.proofs.MatchLaws.{pattern_one}
use Rattle.wh_step_laws.proofs.branching.matches_agree.Goals as goal

pub returns : goal.returns
returns c g h p t i v w z o = pattern_one i v w z o
