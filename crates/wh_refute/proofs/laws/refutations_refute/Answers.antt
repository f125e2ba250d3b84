use Rattle.wh_refute.proofs.RefuteLaws.{refutations_refute_law}
use Rattle.wh_refute.proofs.laws.refutations_refute.Goals as goal

pub returns : goal.returns
returns c = refutations_refute_law
