-- The step comes before each reduction from the reduct.
use Rattle.wh_step.proofs.Walks.{bounded_next}
use Rattle.wh_step.specs.Step.{Step}
use Rattle.wh_step.proofs.laws.reducts_of_bounded.Goals as goal

pub returns : goal.returns
returns c rules t u (n, h) s = (n, bounded_next (Step rules) t u n s h)
