use Rattle.wh_reduction_pairs.specs.TaskView.{task_data}
use Rattle.wh_order_space.specs.Circuited.{IsDemandOfSet}
use Rattle.wh_order_space.proofs.sides.demand_of_pairs.Given as goal

abbrev pub invariant-loop-number : goal.invariant-loop-number
invariant-loop-number l = IsDemandOfSet (task_data l.task) l.spots l.found
