use Rattle.wh_order.proofs.BelowLemmas.{Nearest}
use Rattle.wh_order.proofs.below.are_nearest.Given as goal

abbrev pub invariant-loop-item : goal.invariant-loop-item
invariant-loop-item l = Nearest l.items l.count l.item-index l.left
