use Rattle.wh_read.proofs.OneSystem.{read_or_refused}
use Rattle.wh_read.proofs.laws.read_or_refused.Goals as goal

pub returns : goal.returns
returns c = read_or_refused
