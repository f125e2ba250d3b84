-- The question about two numbers that was asked last, with its answer.
use Rattle.std.specs.Prelude.{◌↔◌, List, IsTrue}
use Rattle.wh_terms.specs.Tree.{Tm}
use Rattle.wh_subterm.specs.ProperParts.{Part}
use Rattle.wh_intern.specs.Trees.{tree_at}
use Rattle.wh_intern_pairs.specs.declared.asked.Asked.{Asked}

-- the answer is whether the tree of the one number is a proper part of that of the other
abbrev pub IsAnswered : List Tm → Asked → Type 0
IsAnswered ts asked = IsTrue asked.has ↔ Part (tree_at ts asked.part) (tree_at ts asked.whole)
