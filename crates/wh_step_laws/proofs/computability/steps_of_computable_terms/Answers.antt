-- By recursion on the type.
use Rattle.wh_step_laws.proofs.SystemComputable.{computable-step}
use Rattle.wh_step_laws.proofs.computability.steps_of_computable_terms.Goals as goal

pub returns : goal.returns
returns c S rules rank a t u w k h s = computable-step w k rank a t u h s
