use Rattle.wh_poly_moves.proofs.PathLeft.{PathLeft}
use Rattle.wh_poly_moves.proofs.flow.Flow.grow.Given as goal

abbrev pub invariant-loop-link : goal.invariant-loop-link
invariant-loop-link l = PathLeft l.left l.right l.initial.self l.self l.path.steps.items l.root l.at l.giver

abbrev pub decreases-loop-link : goal.decreases-loop-link
decreases-loop-link l = l.at
