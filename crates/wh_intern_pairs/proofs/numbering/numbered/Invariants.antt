use Rattle.std.proofs.Common.{map, take}
use Rattle.wh_pairs.specs.PairData.{pair_data}
use Rattle.wh_intern.specs.TableTrees.{trees}
use Rattle.wh_intern_pairs.specs.NumberedSides.{AreSides, IsPartOfSides, Joins}
use Rattle.wh_intern_pairs.proofs.numbering.numbered.Given as goal

abbrev pub invariant-loop-place : goal.invariant-loop-place
invariant-loop-place l = record {
  sides : AreSides (trees l.table) l.list (map pair_data (take l.place l.pairs));
  joins : Joins (trees l.initial.table) (trees l.table) (IsPartOfSides (map pair_data l.pairs));
}
