use Rattle.wh_graph.proofs.GraphLemmas.{AreEntered}
use Rattle.wh_graph.proofs.edges.enter.Given as goal

abbrev pub invariant-loop-target : goal.invariant-loop-target
invariant-loop-target l = AreEntered l.fn.back l.row l.number l.target-index l.back
