use Rattle.wh_read.proofs.OneSystem.{one_reading}
use Rattle.wh_read.proofs.laws.one_reading.Goals as goal

pub returns : goal.returns
returns c = one_reading
