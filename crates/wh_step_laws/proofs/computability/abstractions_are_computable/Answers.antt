-- By induction on the steps of the body and of the argument.
use Rattle.wh_step_laws.proofs.SystemComputable.{computable-abstraction}
use Rattle.wh_step_laws.proofs.computability.abstractions_are_computable.Goals as goal

pub returns : goal.returns
returns c S rules rank a b t w k p h = computable-abstraction w k rank a b t p h
