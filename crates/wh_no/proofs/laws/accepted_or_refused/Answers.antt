-- A fault says that one condition of a valid claim is false.
use Rattle.wh_no.proofs.Verdicts.{accepted_or_fault}
use Rattle.wh_no.proofs.laws.accepted_or_refused.Goals as goal

pub returns : goal.returns
returns c d cert a f w h k = accepted_or_fault d cert a f w h k
