use Rattle.wh_graph.specs.Graphs.{AtPlaces, Edge}
use Rattle.wh_graph.proofs.GraphLemmas.{AreListsTo}
use Rattle.wh_graph.proofs.component.at_places.Given as goal

abbrev pub invariant-loop-number : goal.invariant-loop-number
invariant-loop-number l = AreListsTo (AtPlaces (Edge l.rows) l.set) l.number-index l.placed.items
