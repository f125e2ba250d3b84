-- The left side of a rule is headed by a symbol, so no rule applies to an abstraction itself.
use Rattle.wh_step.proofs.RawStep.{step-lam}
use Rattle.wh_step.proofs.laws.steps_of_abstractions.Goals as goal

pub returns : goal.returns
returns c S rules a t v w l p s = step-lam S w a t v l p s
