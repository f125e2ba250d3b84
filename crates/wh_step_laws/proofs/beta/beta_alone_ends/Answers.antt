-- Every symbol is computable, so every well-typed term is.
use Rattle.wh_step_laws.proofs.BetaAlone.{typed-bounded}
use Rattle.wh_step_laws.proofs.beta.beta_alone_ends.Goals as goal

pub returns : goal.returns
returns c S t a p = typed-bounded S t a p
