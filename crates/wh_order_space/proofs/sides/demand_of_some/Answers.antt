use Rattle.std.proofs.Common.{get_or, refl}
use Rattle.wh_reduction_pairs.specs.TaskView.{task_data}
use Rattle.wh_order_space.proofs.SideLemmas.{some_none, some_pair, some_all}
use Rattle.wh_order_space.proofs.sides.demand_of_some.Goals as goal

pub loop-number-init : goal.loop-number-init
loop-number-init c = some_none (task_data c.args.task.now) c.args.spots.now

pub loop-number-preserved : goal.loop-number-preserved
loop-number-preserved c =
    let T = task_data c.args.task.now in
    let i = c.loop-number.number-index in
    some_pair T c.args.spots.now i (get_or T.set i 0) c.loop-number.found c.in_ok-own.own c.in_ok-found.found refl c.loop-number-test.true c.loop-number.invariant c.in_ok-own.ensures
    c.in_ok-found.ensures

pub returns : goal.returns
returns c = some_all (task_data c.args.task.now) c.args.spots.now c.loop-number.number-index c.loop-number.found c.loop-number-test.false c.loop-number.invariant
