use Rattle.std.proofs.Common.{◌<◌}
use Rattle.wh_pairs.specs.Sets.{IsSetOf}
use Rattle.wh_usable_rules.specs.Tables.{Says}
use Rattle.wh_usable_rules.proofs.taking.numbers_of.Given as goal

abbrev pub invariant-loop-number : goal.invariant-loop-number
invariant-loop-number l = IsSetOf (λ n. (n < l.number) × Says l.taken n) l.numbers
