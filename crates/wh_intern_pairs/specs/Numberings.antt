-- The sides of all pairs as numbers of a table: which number stands for which argument.
use Rattle.std.specs.Prelude.{List, Option, IfSome}
use Rattle.wh_pairs.specs.PairData.{PairData}
use Rattle.wh_intern.specs.TableTrees.{trees}
use Rattle.wh_intern_pairs.specs.NumberedSides.{AreSides}
use Rattle.wh_intern_pairs.specs.declared.numbered.Numbered.{Numbered}

-- there is one entry for each pair, in order: its heads, and the numbers of its arguments in the table
abbrev pub IsNumbering : Numbered → List PairData → Type 0
IsNumbering numbered ps = AreSides (trees numbered.table) numbered.sides ps

-- where the sides are numbered already, they are those of the pairs
abbrev pub IsNumberingSoFar : Option Numbered → List PairData → Type 0
IsNumberingSoFar made ps = IfSome made (λ numbered. IsNumbering numbered ps)
