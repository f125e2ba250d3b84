-- The lines show of each rule and of each pair what the law asks.
use Rattle.wh_poly_meaning.proofs.CoverLaws.{covering_ends}
use Rattle.wh_poly_meaning.proofs.pairs.coverings_keep_that_calls_end.Goals as goal

pub returns : goal.returns
returns c T R E rest made typed whole is kept smaller = covering_ends T R E is made typed whole rest kept smaller
