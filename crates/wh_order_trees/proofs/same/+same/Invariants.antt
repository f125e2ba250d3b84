use Rattle.wh_order_trees.proofs.TreeLemmas.{weight, weights}
use Rattle.wh_order_trees.proofs.SameLemmas.{SameBefore}
use Rattle.wh_order_trees.proofs.same.+same.Given as goal

abbrev pub decreases-same_tree : goal.decreases-same_tree
decreases-same_tree l = weight l.a.now

abbrev pub decreases-same_trees : goal.decreases-same_trees
decreases-same_trees l = weights l.items.now

abbrev pub invariant-same_trees-loop-i : goal.invariant-same_trees-loop-i
invariant-same_trees-loop-i l = SameBefore l.items l.others l.i
