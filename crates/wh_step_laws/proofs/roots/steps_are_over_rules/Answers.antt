-- A rule's instance by values as a relation is one by values as a function.
use Rattle.wh_step.proofs.RawStep.{step_raw, raw_step}
use Rattle.wh_step_laws.proofs.SystemSteps.{over-more, rule_root-instance, instance-rule_root}
use Rattle.wh_step_laws.proofs.roots.steps_are_over_rules.Goals as goal

pub returns : goal.returns
returns c S rules t u w l p = (λ s. over-more instance-rule_root (step_raw S w s), λ s. raw_step S w (over-more rule_root-instance s) l p)
