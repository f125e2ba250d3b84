use Rattle.std.proofs.Common.{◌≡◌, ◌++◌, drop, length, reverse}
use Rattle.wh_order.proofs.KeptLemmas.{merged}
use Rattle.wh_order.proofs.kept.chosen.Given as goal

abbrev pub invariant-loop-tree : goal.invariant-loop-tree
invariant-loop-tree l = l.items ++ merged l.place (drop l.wanted l.places) (reverse l.left.items) ≡ merged 0 l.places (reverse l.fn.behind.items)

abbrev pub decreases-loop-tree : goal.decreases-loop-tree
decreases-loop-tree l = length l.left.items
