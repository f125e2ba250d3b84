use Rattle.std.proofs.Common.{map}
use Rattle.wh_pairs.proofs.ByPlace.{Before}
use Rattle.wh_subterm.specs.SubtermRows.{IsDecreasing, chosen}
use Rattle.wh_intern.specs.TableTrees.{trees}
use Rattle.wh_intern_pairs.specs.Asking.{IsAnswered}
use Rattle.wh_intern_pairs.specs.SidesAsPairs.{as_pair}
use Rattle.wh_intern_pairs.proofs.decrease.first_not_decreasing.Given as goal

abbrev pub invariant-loop-number : goal.invariant-loop-number
invariant-loop-number l =
    IsAnswered (trees l.table) l.asked
    × Before (IsDecreasing (map (as_pair (trees l.table)) l.sides) (map chosen l.args) l.drop) l.set l.number-index
