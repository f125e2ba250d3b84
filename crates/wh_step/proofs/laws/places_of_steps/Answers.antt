-- The path is read off the step.
use Rattle.wh_step.proofs.Places.{step-step_at}
use Rattle.wh_step.proofs.laws.places_of_steps.Goals as goal

pub returns : goal.returns
returns c rules t u s = step-step_at s
