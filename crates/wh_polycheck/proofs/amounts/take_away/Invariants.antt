use Rattle.wh_polycheck.proofs.AmountWalk.{Taken}
use Rattle.wh_polycheck.proofs.amounts.take_away.Given as goal

abbrev pub invariant-loop-item : goal.invariant-loop-item
invariant-loop-item l = Taken l.fn.sums l.sums l.base l.width l.least l.item-index l.moves
