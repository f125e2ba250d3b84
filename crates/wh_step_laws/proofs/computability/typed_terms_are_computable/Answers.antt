-- By induction on the typing, under all substitutions of computable terms.
use Rattle.wh_step_laws.proofs.SystemComputable.{typed-system_computable}
use Rattle.wh_step_laws.proofs.computability.typed_terms_are_computable.Goals as goal

pub returns : goal.returns
returns c S rules rank a t w k h p = typed-system_computable w k rank a t h p
