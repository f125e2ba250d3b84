-- The list of reducts is finite.
use Rattle.wh_step.specs.Step.{Step}
use Rattle.wh_step.proofs.Walks.{bounded_next}
use Rattle.wh_step_laws.proofs.SystemSteps.{reducts-bounded}
use Rattle.wh_step_laws.proofs.bounds.bounded_where_reducts_are.Goals as goal

pub returns : goal.returns
returns c S rules t w l p = (λ (n, h) u s. (n, bounded_next (Step rules) t u n s h), λ h. reducts-bounded w t (l, p) h)
