use Rattle.std.proofs.Common.{map}
use Rattle.wh_pairs.specs.PairData.{pair_data}
use Rattle.wh_subterm.specs.SubtermRows.{chosen}
use Rattle.wh_find_subterm.specs.Reading.{IsBelowSet}
use Rattle.wh_find_subterm.proofs.reading.below_under.Given as goal

abbrev pub invariant-loop-number : goal.invariant-loop-number
invariant-loop-number l = IsBelowSet (map pair_data l.pairs) l.set (map chosen l.args) l.number-index l.drop
