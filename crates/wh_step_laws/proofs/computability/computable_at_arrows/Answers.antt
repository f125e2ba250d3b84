-- The height of the recursion on ranks does not matter.
use Rattle.wh_step.specs.Step.{Step}
use Rattle.wh_step_laws.proofs.SystemComputable.{arrow-unfolded, arrow-folded}
use Rattle.wh_step_laws.proofs.computability.computable_at_arrows.Goals as goal

pub returns : goal.returns
returns c S rules rank a b t = (arrow-unfolded S rank (Step rules) a b t, arrow-folded S rank (Step rules) a b t)
