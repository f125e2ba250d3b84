-- The results of the steps, one after another.
use Rattle.wh_step.proofs.Places.{replay-reduction}
use Rattle.wh_step.proofs.laws.replays_are_reductions.Goals as goal

pub returns : goal.returns
returns c rules steps t u r = replay-reduction steps t u r
