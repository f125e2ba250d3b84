use Rattle.std.proofs.Common.{subst}
use Rattle.wh_step.specs.Extents.{Measures}
use Rattle.wh_step.proofs.ExtentLemmas.{past_argument}
use Rattle.wh_step.proofs.weighing.applied.Goals as goal

pub returns-in-Err : goal.returns-in-Err
returns-in-Err c t u d m = past_argument t u c.in-Err.past (subst (Measures u) c.in-Err.is m)
