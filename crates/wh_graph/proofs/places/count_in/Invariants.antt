use Rattle.std.proofs.Common.{◌≡◌, length}
use Rattle.wh_graph.specs.Times.{AreAdded}
use Rattle.wh_graph.proofs.places.count_in.Given as goal

abbrev pub invariant-loop-number : goal.invariant-loop-number
invariant-loop-number l = AreAdded l.set l.list l.number-index l.fn.times l.times × (length l.times ≡ 4096)
