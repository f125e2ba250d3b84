-- It is part of the definition.
use Rattle.wh_step.specs.Step.{Step}
use Rattle.wh_step_laws.proofs.SystemComputable.{computable-typed}
use Rattle.wh_step_laws.proofs.computability.computable_terms_are_typed.Goals as goal

pub returns : goal.returns
returns c S rules rank a t h = computable-typed S rank (Step rules) a t h
