use Rattle.wh_refute.proofs.RefuteLaws.{refutations_have_no_fault_law}
use Rattle.wh_refute.proofs.laws.refutations_have_no_fault.Goals as goal

pub returns : goal.returns
returns c = refutations_have_no_fault_law
