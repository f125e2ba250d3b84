use Rattle.wh_poly_moves.proofs.VisitWalk.{VisitWalk}
use Rattle.wh_poly_moves.proofs.search.Search.visit.Given as goal

abbrev pub invariant-loop-giver : goal.invariant-loop-giver
invariant-loop-giver l = VisitWalk l.left l.right l.flow l.initial.self l.self l.target l.giver
