-- By recursion on the type: at an arrow a variable is the argument.
use Rattle.wh_step_laws.proofs.SystemComputable.{computable-bounded}
use Rattle.wh_step_laws.proofs.computability.computable_terms_are_bounded.Goals as goal

pub returns : goal.returns
returns c S rules rank a t w k h = computable-bounded w k rank a t h
