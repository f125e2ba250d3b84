-- The place's rank is that of the term's sort or below it.
use Rattle.wh_step.specs.Step.{Step}
use Rattle.wh_step_laws.proofs.SystemComputable.{computable-accessible}
use Rattle.wh_step_laws.proofs.computability.accessible_arguments_are_computable.Goals as goal

pub returns : goal.returns
returns c S rules rank s f i a ts u h acc place at = computable-accessible S rank (Step rules) s f i a ts u h acc place at
