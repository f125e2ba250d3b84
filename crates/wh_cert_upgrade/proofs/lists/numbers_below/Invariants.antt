use Rattle.std.proofs.Common.{◌≡◌}
use Rattle.wh_reduction_pairs.specs.TaskData.{numbers_from}
use Rattle.wh_cert_upgrade.proofs.lists.numbers_below.Given as goal

abbrev pub invariant-loop-number : goal.invariant-loop-number
invariant-loop-number l = l.numbers ≡ numbers_from 0 l.number
