use Rattle.std.proofs.Common.{◌<◌}
use Rattle.wh_pairs.proofs.ByPlace.{Before}
use Rattle.wh_usable.proofs.listed.all_below.Given as goal

abbrev pub invariant-loop-number : goal.invariant-loop-number
invariant-loop-number l = Before (λ n. n < l.bound) l.numbers l.number-index
