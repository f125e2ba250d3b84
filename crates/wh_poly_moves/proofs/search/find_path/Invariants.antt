use Rattle.std.proofs.Common.{◌-◌, length}
use Rattle.wh_poly_moves.proofs.VisitWalk.{PathWalk}
use Rattle.wh_poly_moves.proofs.search.find_path.Given as goal

abbrev pub invariant-loop-at : goal.invariant-loop-at
invariant-loop-at l = PathWalk l.left l.right l.flow l.root l.search l.at

abbrev pub decreases-loop-at : goal.decreases-loop-at
decreases-loop-at l = length l.right - l.at
