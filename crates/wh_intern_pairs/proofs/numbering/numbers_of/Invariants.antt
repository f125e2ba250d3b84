use Rattle.std.proofs.Common.{map, take}
use Rattle.wh_terms.specs.Erase.{tm}
use Rattle.wh_intern.specs.TableTrees.{trees}
use Rattle.wh_intern_pairs.specs.NumberedSides.{AreNumbersOf, IsPartOfOne, Joins}
use Rattle.wh_intern_pairs.proofs.numbering.numbers_of.Given as goal

abbrev pub invariant-loop-term : goal.invariant-loop-term
invariant-loop-term l = record {
  numbers : AreNumbersOf (trees l.table) l.numbers (map tm (take l.term-index l.terms));
  joins : Joins (trees l.initial.table) (trees l.table) (IsPartOfOne (map tm l.terms));
}
