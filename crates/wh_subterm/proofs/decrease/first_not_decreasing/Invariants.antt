use Rattle.std.proofs.Common.{map}
use Rattle.wh_pairs.specs.PairData.{pair_data}
use Rattle.wh_subterm.specs.SubtermRows.{IsDecreasing, chosen}
use Rattle.wh_pairs.proofs.ByPlace.{Before}
use Rattle.wh_subterm.proofs.decrease.first_not_decreasing.Given as goal

abbrev pub invariant-loop-number : goal.invariant-loop-number
invariant-loop-number l = Before (IsDecreasing (map pair_data l.pairs) (map chosen l.args) l.drop) l.set l.number-index
