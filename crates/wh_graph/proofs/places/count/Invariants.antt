use Rattle.wh_graph.specs.Times.{AreCounted}
use Rattle.wh_graph.proofs.places.count.Given as goal

abbrev pub invariant-loop-block : goal.invariant-loop-block
invariant-loop-block l = AreCounted l.set l.blocks l.block-index l.times
