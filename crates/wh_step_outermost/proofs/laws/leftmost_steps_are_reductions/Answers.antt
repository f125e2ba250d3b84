use Rattle.wh_step_outermost.proofs.Chains.{leads_reduction}
use Rattle.wh_step_outermost.proofs.laws.leftmost_steps_are_reductions.Goals as goal

pub returns : goal.returns
returns c rules t u n leads = leads_reduction t u n leads
