use Rattle.wh_access.proofs.DemandLaws.{no_strict_cycle}
use Rattle.wh_access.proofs.laws.strict_cycles_forbid_ranks.Goals as goal

pub returns : goal.returns
returns c = no_strict_cycle
