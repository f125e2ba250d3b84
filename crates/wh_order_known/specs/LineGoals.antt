-- The goals that lines are for.
use Rattle.std.specs.Prelude.{◌≡◌}
use Rattle.wh_order_path.specs.Verdict.{Claim}
use Rattle.wh_order_trees.specs.declared.tree.Tree.{Tree}
use Rattle.wh_order.specs.declared.goals.Goal.{Goal}
use Rattle.wh_order.specs.Claims.{said, side_tree}

-- the goal claims this of the trees s and t, and no binder of them was passed
pub record IsLineGoal (c : Claim) (s t : Tree) (g : Goal) : Type 0 where
  pub same_claim : said g.claim ≡ c
  pub same_next : g.next ≡ 0
  pub same_left : side_tree g.left ≡ s
  pub same_right : side_tree g.right ≡ t
