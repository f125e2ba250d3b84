use Rattle.std.proofs.Common.{get_or, refl}
use Rattle.wh_reduction_pairs.specs.TaskView.{task_data}
use Rattle.wh_order_space.proofs.SideLemmas.{set_none, set_rule}
use Rattle.wh_order_space.proofs.sides.demand_of_rules.Goals as goal

pub loop-number-init : goal.loop-number-init
loop-number-init c = set_none (task_data c.args.task.now) c.args.spots.now

pub loop-number-preserved : goal.loop-number-preserved
loop-number-preserved c =
    let T = task_data c.args.task.now in
    let i = c.loop-number.number-index in
    set_rule T c.args.spots.now i (get_or T.covered i 0) c.loop-number.found c.in_ok-own.own c.in_ok-found.found refl c.loop-number-test.true c.loop-number.invariant c.in_ok-own.ensures
    c.in_ok-found.ensures
