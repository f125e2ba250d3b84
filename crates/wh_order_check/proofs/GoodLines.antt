-- The verdict on the trees of the program for two sides is that on the sides.
use Rattle.std.proofs.Common.{◌≡◌, ap₂, false, true, List}
use Rattle.wh_terms.specs.Typing.{Symbols}
use Rattle.wh_terms.specs.Rules.{RewriteRule}
use Rattle.wh_pairs.specs.PairData.{PairData}
use Rattle.wh_order_inference.specs.Said.{inference}
use Rattle.wh_order_inference.specs.declared.inference.Inference.{Inference}
use Rattle.wh_order_extended.specs.ExtendedSides.{extended_metas}
use Rattle.wh_order_extended.specs.Filtered.{collapsed}
use Rattle.wh_order_path.specs.Lines.{filtered_side, filtered_call}
use Rattle.wh_order_path.specs.Verdict.{line_verdict}
use Rattle.wh_order_node.specs.Filterings.{FilteringData, filters_of, precedences_of, filtered_signature}
use Rattle.wh_order_trees.specs.declared.tree.Tree.{Tree}
use Rattle.wh_order.specs.TreeSides.{AreFilters, AreSides, IsTreeOfSide, IsTreeOfCall, tree_verdict}

module _ (S : Symbols) (rules : List RewriteRule) (D : FilteringData) (filters : AreFilters S rules D) (s t : Tree) (i : Inference) where
  module _ (r : RewriteRule) (left : IsTreeOfSide S rules D r false s) (right : IsTreeOfSide S rules D r true t) where
    pub rule_sides : AreSides S rules D (collapsed (extended_metas S r)) s t
    rule_sides = record { each_symbol = filters.each_symbol; left = left.over; right = right.over }

    pub rule_verdict : tree_verdict S rules D (collapsed (extended_metas S r)) s t i
        ≡ line_verdict (filtered_signature S rules D) (precedences_of S D) (collapsed (extended_metas S r))
        (filtered_side S (filters_of S D) r r.left) (filtered_side S (filters_of S D) r r.right) (inference i)
    rule_verdict =
        ap₂ (λ a b. line_verdict (filtered_signature S rules D) (precedences_of S D) (collapsed (extended_metas S r)) a b (inference i))
        left.same_tree right.same_tree

  module _ (p : PairData) (left : IsTreeOfCall S rules D p false s) (right : IsTreeOfCall S rules D p true t) where
    pub pair_sides : AreSides S rules D (collapsed p.metas) s t
    pair_sides = record { each_symbol = filters.each_symbol; left = left.over; right = right.over }

    pub pair_verdict : tree_verdict S rules D (collapsed p.metas) s t i
        ≡ line_verdict (filtered_signature S rules D) (precedences_of S D) (collapsed p.metas)
        (filtered_call S (filters_of S D) p.metas p.left_fun p.left) (filtered_call S (filters_of S D) p.metas p.right_fun p.right) (inference i)
    pair_verdict =
        ap₂ (λ a b. line_verdict (filtered_signature S rules D) (precedences_of S D) (collapsed p.metas) a b (inference i)) left.same_tree right.same_tree
