use Rattle.wh_poly_moves.proofs.ReachWalk.{ReachWalk}
use Rattle.wh_poly_moves.proofs.search.Search.reach.Given as goal

abbrev pub invariant-loop-place : goal.invariant-loop-place
invariant-loop-place l = ReachWalk l.flow l.initial.self l.self l.place
