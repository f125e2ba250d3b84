use Rattle.std.proofs.Common.{length, ◌≡◌}
use Rattle.wh_polycheck.proofs.AmountWalk.{AreSet}
use Rattle.wh_polycheck.proofs.amounts.set_out.Given as goal

abbrev pub invariant-loop-k : goal.invariant-loop-k
invariant-loop-k l = length l.sums ≡ length l.fn.sums × AreSet l.items l.sums l.base l.k
