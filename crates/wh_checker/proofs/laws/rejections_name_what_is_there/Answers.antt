use Rattle.wh_checker.specs.declared.rejected.CheckFault.TheVariants.{Rejected}
use Rattle.wh_checker.proofs.Named.{fault_there}
use Rattle.wh_checker.proofs.laws.rejections_name_what_is_there.Goals as goal

pub returns : goal.returns
returns c m d ps cert r made first = fault_there m d ps cert (Rejected r) made first
