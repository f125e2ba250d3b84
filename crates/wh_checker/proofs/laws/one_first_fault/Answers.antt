use Rattle.wh_checker.proofs.FaultLaws.{first_fault_one}
use Rattle.wh_checker.proofs.laws.one_first_fault.Goals as goal

pub returns : goal.returns
returns c limits d ps cert f g made first other = first_fault_one limits d ps cert f g made first other
