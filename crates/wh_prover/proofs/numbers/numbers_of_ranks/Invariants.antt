use Rattle.std.proofs.Common.{◌≡◌, take}
use Rattle.wh_prover.proofs.numbers.numbers_of_ranks.Given as goal

abbrev pub invariant-loop-sort : goal.invariant-loop-sort
invariant-loop-sort l = l.numbers ≡ take l.sort l.ranks
