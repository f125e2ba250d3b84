-- The candidate that is read off the term gives it, or nothing does.
use Rattle.wh_step_laws.proofs.BranchingLaws.{match_decided}
use Rattle.wh_step_laws.proofs.branching.matching_is_decided.Goals as goal

pub returns : goal.returns
returns c S r t w = match_decided S r w t
