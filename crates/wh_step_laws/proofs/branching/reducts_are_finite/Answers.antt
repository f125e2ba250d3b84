-- Each rule gives one reduct at most, beta too.
use Rattle.wh_step.specs.Step.{Step}
use Rattle.wh_step_laws.proofs.Listed.{lists_all}
use Rattle.wh_step_laws.proofs.SystemSteps.{steps_listed}
use Rattle.wh_step_laws.proofs.branching.reducts_are_finite.Goals as goal

pub returns : goal.returns
returns c S rules t w l p = lists_all (Step rules) t (steps_listed w t (l, p))
