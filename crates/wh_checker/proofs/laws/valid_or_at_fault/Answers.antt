use Rattle.wh_checker.proofs.ValidOrFault.{valid_or_faulty}
use Rattle.wh_checker.proofs.laws.valid_or_at_fault.Goals as goal

pub returns : goal.returns
returns c d ps cert made within = valid_or_faulty d ps cert made within
