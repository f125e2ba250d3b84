use Rattle.wh_read.proofs.OneSystem.{one_refusal}
use Rattle.wh_read.proofs.laws.one_refusal.Goals as goal

pub returns : goal.returns
returns c = one_refusal
