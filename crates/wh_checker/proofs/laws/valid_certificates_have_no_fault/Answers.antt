use Rattle.wh_checker.proofs.FaultLaws.{valid_or_fault, small_or_fault}
use Rattle.wh_checker.proofs.laws.valid_certificates_have_no_fault.Goals as goal

pub returns-clause-unlimited : goal.returns-clause-unlimited
returns-clause-unlimited c d ps cert f made valid first = valid_or_fault d ps cert f made valid first

pub returns-clause-limited : goal.returns-clause-limited
returns-clause-limited c d ps cert f made valid small first = small_or_fault d ps cert f made valid small first
