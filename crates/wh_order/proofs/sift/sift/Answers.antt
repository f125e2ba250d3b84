use Rattle.std.proofs.Common.{List, IfOk, reverse, subst}
use Rattle.wh_terms.specs.Erase.{declared_metas, tm}
use Rattle.wh_order_node.specs.FilteringView.{filtering_data}
use Rattle.wh_order_trees.specs.declared.tree.Tree.{Tree}
use Rattle.wh_order.specs.Sifted.{IsSifted}
use Rattle.wh_order.proofs.sift.sift.Goals as goal

pub returns : goal.returns
returns c =
    subst (λ (qs : List Tree). IfOk c.sift_before.result (IsSifted (filtering_data c.args.filters.now) (declared_metas c.args.metas.now) (tm c.args.term.now) (reverse qs)))
    c.new.ensures.items c.sift_before.ensures
