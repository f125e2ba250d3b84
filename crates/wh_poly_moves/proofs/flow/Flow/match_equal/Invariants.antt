use Rattle.std.proofs.Common.{◌+◌, ◌-◌, length}
use Rattle.wh_poly_moves.proofs.Matching.{MatchWalk}
use Rattle.wh_poly_moves.proofs.flow.Flow.match_equal.Given as goal

abbrev pub invariant-loop-i : goal.invariant-loop-i
invariant-loop-i l = MatchWalk l.left l.right l.self l.i

abbrev pub decreases-loop-i : goal.decreases-loop-i
decreases-loop-i l = (length l.left - l.i) + (length l.right - l.j)
