-- The trees that a table of nodes stands for, by their numbers.
use Rattle.std.specs.Prelude.{List, [], map}
use Rattle.wh_terms.specs.Tree.{Tm}
use Rattle.wh_intern.specs.Parts.{part_tree}
use Rattle.wh_intern.specs.Trees.{grown}
use Rattle.wh_intern.specs.declared.table.Table.{Table}

-- the trees that the numbers of a table stand for, in order
abbrev pub trees : Table → List Tm
trees table = grown [] (map part_tree table.parts.keys)
