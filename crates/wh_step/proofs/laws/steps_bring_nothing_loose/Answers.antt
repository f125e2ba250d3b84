-- On raw bodies: the bodies that a left side shows have no loose variable but their parameters.
use Rattle.wh_terms.proofs.StepOver.{over-loose}
use Rattle.wh_step.proofs.Instances.{instances_loose}
use Rattle.wh_step.proofs.RawStep.{step_raw}
use Rattle.wh_step.proofs.laws.steps_bring_nothing_loose.Goals as goal

pub returns : goal.returns
returns c S rules t u w l s = over-loose (instances_loose S rules w) 0 (step_raw S w s) l
