use Rattle.wh_poly.specs.Erase.{sum_of}
use Rattle.wh_polycheck.proofs.GoodWalk.{GoodBefore}
use Rattle.wh_polycheck.proofs.good.first_bad.Given as goal

abbrev pub invariant-loop-i : goal.invariant-loop-i
invariant-loop-i l = GoodBefore (sum_of l.left) (sum_of l.right) l.moves l.i
