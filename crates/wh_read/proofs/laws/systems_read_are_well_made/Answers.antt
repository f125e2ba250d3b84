use Rattle.wh_read.proofs.ProperParts.{system_read}
use Rattle.wh_read.proofs.laws.systems_read_are_well_made.Goals as goal

pub returns : goal.returns
returns c = system_read
