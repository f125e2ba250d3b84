-- By the laws of spines.
use Rattle.wh_step_laws.proofs.SystemSteps.{abstraction_steps}
use Rattle.wh_step_laws.proofs.roots.steps_of_abstractions_with_arguments.Goals as goal

pub returns : goal.returns
returns c S rules a t ts v w l p s = abstraction_steps w a t ts v (l, p) s
