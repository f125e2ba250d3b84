use Rattle.std.proofs.Common.{◌≤◌, length}
use Rattle.wh_order_known.proofs.known.Known.look.Given as goal

abbrev pub invariant-loop-place : goal.invariant-loop-place
invariant-loop-place l = l.end ≤ length l.entries

abbrev pub decreases-loop-place : goal.decreases-loop-place
decreases-loop-place l = l.end
