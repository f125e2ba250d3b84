use Rattle.wh_polycheck.proofs.GoodWalk.{FactorsLeft}
use Rattle.wh_polycheck.proofs.good.are_factors_at_least.Given as goal

abbrev pub invariant-loop-i : goal.invariant-loop-i
invariant-loop-i l = FactorsLeft l.items l.others l.i
