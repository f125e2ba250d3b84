-- On raw bodies, where substitution keeps each step, and back.
use Rattle.wh_step.proofs.RawStep.{step-act}
use Rattle.wh_step.proofs.laws.steps_under_substitution.Goals as goal

pub returns : goal.returns
returns c S rules t u φ w l p h k s = step-act S w φ l p h k s
