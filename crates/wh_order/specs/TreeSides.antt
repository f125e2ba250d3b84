-- Filtered sides of rules and of pairs as trees of the program, and the verdict on inferences for two trees.
use Rattle.std.specs.Prelude.{ℕ, ◌≡◌, Bool, List, [], length, Option}
use Rattle.wh_terms.specs.Tree.{Tm, tms_of}
use Rattle.wh_terms.specs.Typing.{Symbols, Declared, AllTyped}
use Rattle.wh_terms.specs.Rules.{RewriteRule}
use Rattle.wh_system.specs.CanonicalView.{side_of}
use Rattle.wh_pairs.specs.PairData.{PairData}
use Rattle.wh_polycheck.specs.Marks.{marked_types, head_of_side}
use Rattle.wh_order_inference.specs.declared.inference.Inference.{Inference}
use Rattle.wh_order_inference.specs.Said.{inference}
use Rattle.wh_order_extended.specs.ExtendedSides.{extended_metas, extended_call}
use Rattle.wh_order_extended.specs.Filtered.{collapsed}
use Rattle.wh_order_sides.specs.PairSides.{list_of_side}
use Rattle.wh_order_path.specs.Lines.{filtered_side, filtered_call}
use Rattle.wh_order_path.specs.Verdict.{line_verdict}
use Rattle.wh_order_node.specs.Filterings.{FilteringData, filters_of, precedences_of, filtered_signature, AreProperSymbols, AreProperMarks}
use Rattle.wh_order_trees.specs.declared.tree.Tree.{Tree}
use Rattle.wh_order_trees.specs.Trees.{tree, IsOver}

-- there is a filter for each symbol, and each filter is proper
pub record AreFilters (S : Symbols) (rules : List RewriteRule) (D : FilteringData) : Type 0 where
  pub each_symbol : length D.symbols ≡ length S.funs
  pub symbols : AreProperSymbols S D
  pub marks : AreProperMarks S rules D

-- the arguments of both sides of a pair have the types of those of the marked symbols
pub record HasTypedCalls (S : Symbols) (rules : List RewriteRule) (p : PairData) : Type 0 where
  pub left : AllTyped S p.metas [] (tms_of p.left) (marked_types S rules p.left_fun)
  pub right : AllTyped S p.metas [] (tms_of p.right) (marked_types S rules p.right_fun)

-- the tree of the program is one over the signature of filtered trees, and stands for this one
pub record IsTreeOf (S : Symbols) (rules : List RewriteRule) (D : FilteringData) (M : List Declared) (t : Tm) (u : Tree) : Type 0 where
  pub same_tree : tree (length S.funs) u ≡ t
  pub over : IsOver (length S.funs) (filtered_signature S rules D) (collapsed M) u

-- for the right or the left side of a rule, extended and filtered
abbrev pub IsTreeOfSide : Symbols → List RewriteRule → FilteringData → RewriteRule → Bool → Tree → Type 0
IsTreeOfSide S rules D r right u = IsTreeOf S rules D (extended_metas S r) (filtered_side S (filters_of S D) r (side_of right r)) u

-- the right or the left side of a pair, extended
abbrev pub extended_pair_side : Symbols → PairData → Bool → Tm
extended_pair_side S p right = extended_call S p.metas (head_of_side p right) (list_of_side p right)

-- u is the right or the left side of a pair, extended and filtered
abbrev pub IsTreeOfCall : Symbols → List RewriteRule → FilteringData → PairData → Bool → Tree → Type 0
IsTreeOfCall S rules D p right u =
    IsTreeOf S rules D p.metas (filtered_call S (filters_of S D) p.metas (head_of_side p right) (list_of_side p right)) u

-- two trees that may be the sides of a line: both are over the symbols, the marked symbols and meta-variables M
pub record AreSides (S : Symbols) (rules : List RewriteRule) (D : FilteringData) (M : List Declared) (s t : Tree) : Type 0 where
  pub each_symbol : length D.symbols ≡ length S.funs
  pub left : IsOver (length S.funs) (filtered_signature S rules D) M s
  pub right : IsOver (length S.funs) (filtered_signature S rules D) M t

-- the number of the first bad one in a line of inferences for two trees, or None where all are good
abbrev pub tree_verdict : Symbols → List RewriteRule → FilteringData → List Declared → Tree → Tree → Inference → Option ℕ
tree_verdict S rules D M s t i =
    line_verdict (filtered_signature S rules D) (precedences_of S D) M (tree (length S.funs) s) (tree (length S.funs) t) (inference i)
