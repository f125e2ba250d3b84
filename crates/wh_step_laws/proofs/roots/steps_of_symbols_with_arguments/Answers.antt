-- By the laws of spines.
use Rattle.wh_step_laws.proofs.SystemSteps.{symbol_steps}
use Rattle.wh_step_laws.proofs.roots.steps_of_symbols_with_arguments.Goals as goal

pub returns : goal.returns
returns c S rules f ts v w l p s = symbol_steps w f ts v (l, p) s
