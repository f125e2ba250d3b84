-- By recursion on the type: with an argument it stays neutral.
use Rattle.wh_step_laws.proofs.SystemComputable.{computable-neutral}
use Rattle.wh_step_laws.proofs.computability.neutral_terms_are_computable.Goals as goal

pub returns : goal.returns
returns c S rules rank a t w k p n h = computable-neutral w k rank a t p n h
