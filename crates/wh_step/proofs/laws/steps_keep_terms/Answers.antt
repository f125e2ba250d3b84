-- On raw bodies: the bodies that a left side shows are terms.
use Rattle.wh_terms.proofs.StepOver.{over-term}
use Rattle.wh_step.proofs.Instances.{instances_terms}
use Rattle.wh_step.proofs.RawStep.{step_raw}
use Rattle.wh_step.proofs.laws.steps_keep_terms.Goals as goal

pub returns : goal.returns
returns c S rules t u w p s = over-term (instances_terms S rules w) (step_raw S w s) p
