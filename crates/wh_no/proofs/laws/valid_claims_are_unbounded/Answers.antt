-- Round the loop as often as it takes.
use Rattle.wh_no.proofs.Valid.{valid-unbounded}
use Rattle.wh_no.proofs.laws.valid_claims_are_unbounded.Goals as goal

pub returns : goal.returns
returns c S rules d w v = valid-unbounded S rules d w v
