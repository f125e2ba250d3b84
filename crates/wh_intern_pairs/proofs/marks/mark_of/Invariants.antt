use Rattle.wh_polycheck.proofs.MarkWalk.{Passed}
use Rattle.wh_intern_pairs.proofs.marks.mark_of.Given as goal

abbrev pub invariant-loop-item : goal.invariant-loop-item
invariant-loop-item l = Passed l.marks l.symbol l.item-index
