-- By the laws of spines.
use Rattle.wh_step_laws.proofs.SystemSteps.{variable_steps}
use Rattle.wh_step_laws.proofs.roots.steps_of_variables_with_arguments.Goals as goal

pub returns : goal.returns
returns c S rules x a ts v w l p s = variable_steps w x a ts v (l, p) s
