use Rattle.wh_reduction_pairs.specs.TaskView.{task_data}
use Rattle.wh_order_space.specs.Circuited.{IsDemandOfSome}
use Rattle.wh_order_space.proofs.sides.demand_of_some.Given as goal

abbrev pub invariant-loop-number : goal.invariant-loop-number
invariant-loop-number l = IsDemandOfSome (task_data l.task) l.spots l.number-index l.found
