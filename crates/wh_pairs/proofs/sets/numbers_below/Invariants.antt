use Rattle.std.proofs.Common.{◌<◌}
use Rattle.wh_pairs.specs.Sets.{IsSetOf}
use Rattle.wh_pairs.proofs.sets.numbers_below.Given as goal

abbrev pub invariant-loop-number : goal.invariant-loop-number
invariant-loop-number l = IsSetOf (λ n. n < l.number) l.set
