use Rattle.wh_graph.proofs.GraphLemmas.{AreTurnedTo}
use Rattle.wh_graph.proofs.edges.turned.Given as goal

abbrev pub invariant-loop-number : goal.invariant-loop-number
invariant-loop-number l = AreTurnedTo l.rows l.number l.back.items
