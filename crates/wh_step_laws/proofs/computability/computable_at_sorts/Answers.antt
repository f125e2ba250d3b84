-- The height of the recursion on ranks does not matter.
use Rattle.wh_step.specs.Step.{Step}
use Rattle.wh_step_laws.proofs.SystemComputable.{sort-unfolded, sort-folded}
use Rattle.wh_step_laws.proofs.computability.computable_at_sorts.Goals as goal

pub returns : goal.returns
returns c S rules rank s t = (sort-unfolded S rank (Step rules) s t, sort-folded S rank (Step rules) s t)
