use Rattle.wh_reduction_pairs.specs.TaskView.{task_data}
use Rattle.wh_order_node.specs.FilteringView.{filtering_data}
use Rattle.wh_order_lines.proofs.WalkLemmas.{HasPairLines}
use Rattle.wh_order_lines.proofs.walks.pair_lines.Given as goal

abbrev pub invariant-loop-i : goal.invariant-loop-i
invariant-loop-i l = HasPairLines (task_data l.task) (filtering_data l.filters) l.i l.lines l.drop
