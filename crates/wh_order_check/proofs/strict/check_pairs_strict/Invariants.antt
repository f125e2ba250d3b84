use Rattle.std.proofs.Common.{ℕ, ◌<◌, map}
use Rattle.wh_reduction_pairs.specs.TaskView.{task_data}
use Rattle.wh_reduction_pairs.specs.ReductionPair.{IsRightPair}
use Rattle.wh_order_inference.specs.Said.{inference}
use Rattle.wh_order_check.specs.OrderingFaults.{strict_lines}
use Rattle.wh_order_check.proofs.strict.check_pairs_strict.Given as goal

abbrev pub invariant-loop-i : goal.invariant-loop-i
invariant-loop-i l = (k : ℕ) → k < l.i → IsRightPair strict_lines (task_data l.task) (map inference l.lines) l.drop k
