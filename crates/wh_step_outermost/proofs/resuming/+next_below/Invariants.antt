use Rattle.std.proofs.Common.{length}
use Rattle.wh_step_outermost.proofs.resuming.+next_below.Given as goal

abbrev pub decreases-next_below : goal.decreases-next_below
decreases-next_below l = length l.place.now
