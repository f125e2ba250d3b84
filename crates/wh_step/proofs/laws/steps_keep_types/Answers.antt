-- On raw bodies: a rule keeps types since the bodies of its left side are typed.
use Rattle.std.proofs.Common.{[]}
use Rattle.wh_terms.proofs.StepOver.{over-typed}
use Rattle.wh_step.proofs.Instances.{instances_typed}
use Rattle.wh_step.proofs.RawStep.{step_raw}
use Rattle.wh_step.proofs.laws.steps_keep_types.Goals as goal

pub returns : goal.returns
returns c S rules t u a w p s = over-typed S (instances_typed S rules w) [] a (step_raw S w s) p
