use Rattle.std.proofs.Common.{map}
use Rattle.wh_pairs.specs.PairData.{pair_data}
use Rattle.wh_usable_rules.specs.Tables.{Enters}
use Rattle.wh_usable_rules.proofs.Tables.{StandsBefore}
use Rattle.wh_usable_rules.proofs.taking.call_pairs.Given as goal

abbrev pub invariant-loop-number : goal.invariant-loop-number
invariant-loop-number l = Enters (StandsBefore (map pair_data l.fn.pairs) l.fn.set l.number-index) l.fn.called l.called
