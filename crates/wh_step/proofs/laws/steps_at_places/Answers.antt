-- By cases on the place.
use Rattle.wh_step.proofs.Places.{step_at-step}
use Rattle.wh_step.proofs.laws.steps_at_places.Goals as goal

pub returns : goal.returns
returns c rules k path t u s = step_at-step s
