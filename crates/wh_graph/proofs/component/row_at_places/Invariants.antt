use Rattle.wh_graph.proofs.GraphLemmas.{HasPlaces}
use Rattle.wh_graph.proofs.component.row_at_places.Given as goal

abbrev pub invariant-loop-number : goal.invariant-loop-number
invariant-loop-number l = HasPlaces l.set l.row l.number-index l.placed
