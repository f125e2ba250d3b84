use Rattle.std.proofs.Common.{length}
use Rattle.wh_graph.specs.Classes.{AreGathered}
use Rattle.wh_graph.proofs.component.fill.Given as goal

abbrev pub invariant-loop-place : goal.invariant-loop-place
invariant-loop-place l = AreGathered l.set l.of (length l.fn.lists) l.place l.lists
