use Rattle.wh_checker.proofs.FaultLaws.{rejected_unlimited}
use Rattle.wh_checker.proofs.laws.rejections_are_first_rows.Goals as goal

pub returns : goal.returns
returns c d ps cert r first = rejected_unlimited d ps cert r first
