use Rattle.std.proofs.Common.{◌≡◌}
use Rattle.wh_graph.proofs.component.blocks_of.Given as goal

abbrev pub invariant-loop-list : goal.invariant-loop-list
invariant-loop-list l = l.blocks ≡ l.yielded
