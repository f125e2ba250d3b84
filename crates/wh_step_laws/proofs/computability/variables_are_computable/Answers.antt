-- They are neutral and have no reducts.
use Rattle.wh_step_laws.proofs.SystemComputable.{computable-free}
use Rattle.wh_step_laws.proofs.computability.variables_are_computable.Goals as goal

pub returns : goal.returns
returns c S rules rank x a w k = computable-free w rank x a k
