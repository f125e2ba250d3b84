use Rattle.wh_hopoly.proofs.CoverWalk.{Left}
use Rattle.wh_hopoly.proofs.covers.at_least.Given as goal

abbrev pub invariant-loop-item : goal.invariant-loop-item
invariant-loop-item l = Left l.items l.others l.item-index l.next
