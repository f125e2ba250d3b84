use Rattle.wh_checker.proofs.ValidOrFault.{accepted_or_faulty}
use Rattle.wh_checker.proofs.laws.accepted_or_at_fault.Goals as goal

pub returns : goal.returns
returns c d ps cert made within = accepted_or_faulty d ps cert made within
