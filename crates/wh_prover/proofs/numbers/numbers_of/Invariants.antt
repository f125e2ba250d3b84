use Rattle.std.proofs.Common.{◌≡◌, take}
use Rattle.wh_prover.proofs.numbers.numbers_of.Given as goal

abbrev pub invariant-loop-number : goal.invariant-loop-number
invariant-loop-number l = l.numbers ≡ take l.number-index l.list
