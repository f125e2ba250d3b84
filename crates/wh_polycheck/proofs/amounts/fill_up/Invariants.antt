use Rattle.wh_polycheck.proofs.AmountWalk.{Filled}
use Rattle.wh_polycheck.proofs.amounts.fill_up.Given as goal

abbrev pub invariant-loop-item : goal.invariant-loop-item
invariant-loop-item l = Filled l.fn.sums l.sums l.base l.item-index l.moves
