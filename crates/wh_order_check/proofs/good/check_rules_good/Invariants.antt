use Rattle.std.proofs.Common.{ℕ, ◌<◌, map}
use Rattle.wh_reduction_pairs.specs.TaskView.{task_data}
use Rattle.wh_reduction_pairs.specs.ReductionPair.{IsRightRule}
use Rattle.wh_order_inference.specs.Said.{inference}
use Rattle.wh_order_node.specs.FilteringView.{filtering_data}
use Rattle.wh_order_check.specs.OrderingFaults.{good_lines}
use Rattle.wh_order_check.proofs.good.check_rules_good.Given as goal

abbrev pub invariant-loop-i : goal.invariant-loop-i
invariant-loop-i l = let T = task_data l.task in (k : ℕ) → k < l.i → IsRightRule (good_lines T.symbols T.rules (filtering_data l.filters)) T (map inference l.lines) k
