use Rattle.wh_polycheck.proofs.GoodWalk.{ArgumentsLeft}
use Rattle.wh_polycheck.proofs.good.are_arguments_at_least.Given as goal

abbrev pub invariant-loop-i : goal.invariant-loop-i
invariant-loop-i l = ArgumentsLeft l.items l.others l.i
