-- The law of reduction pairs, where calls are measured by what they are worth.
use Rattle.wh_poly_meaning.proofs.PairsEnd.{sets_end_by_worth}
use Rattle.wh_poly_meaning.proofs.pairs.covers_keep_that_calls_end.Goals as goal

pub returns : goal.returns
returns c S rules R pairs set kept well proper covered each decided end =
    sets_end_by_worth S rules R pairs set kept well proper covered each decided end
