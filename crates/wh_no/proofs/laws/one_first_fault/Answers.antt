-- Each fault says that the conditions before its own hold.
use Rattle.wh_no.proofs.Verdicts.{fault_one}
use Rattle.wh_no.proofs.laws.one_first_fault.Goals as goal

pub returns : goal.returns
returns c d cert f g w h k = fault_one d cert f g w h k
