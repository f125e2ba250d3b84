use Rattle.std.proofs.Common.{◌+◌, ◌*◌, length}
use Rattle.wh_order_inference.specs.Inferences.{entries, all_entries}
use Rattle.wh_order_inference.specs.Said.{inference, inferences}
use Rattle.wh_order_node.specs.FilteringView.{filtering_data}
use Rattle.wh_order_trees.specs.TreeParts.{World}
use Rattle.wh_order.specs.Precedences.{order_of}
use Rattle.wh_order.specs.Claims.{AreGoalsOver}
use Rattle.wh_order.proofs.CheckLemmas.{RestOf}
use Rattle.wh_order.proofs.check.+checking.Given as goal

abbrev pub decreases-check_goal : goal.decreases-check_goal
decreases-check_goal l = 2 * entries (inference l.inference.now)

abbrev pub decreases-check_goals : goal.decreases-check_goals
decreases-check_goals l = 2 * all_entries (inferences l.parts.now) + 1

abbrev pub invariant-check_goals-loop-i : goal.invariant-check_goals-loop-i
invariant-check_goals-loop-i l =
    (w : World) → AreGoalsOver (length (filtering_data l.filters).symbols) w l.goals
    → RestOf w.symbols (order_of (filtering_data l.filters)) w.metas (length (filtering_data l.filters).symbols) l.goals l.parts l.fn.at l.next l.i
