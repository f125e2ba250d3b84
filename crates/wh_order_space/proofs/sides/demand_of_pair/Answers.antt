use Rattle.std.proofs.Common.{get_or, arith}
use Rattle.wh_pairs.specs.PairData.{pair_data}
use Rattle.wh_reduction_pairs.specs.TaskView.{task_data}
use Rattle.wh_order_space.proofs.SideLemmas.{between_pair, pair_there}
use Rattle.wh_order_space.proofs.sides.demand_of_pair.Goals as goal

pub returns : goal.returns
returns c =
    let pairs = c.args.task.now.pairs.now in
    let p = c.index-task-number.result in
    between_pair (task_data c.args.task.now) c.args.spots.now c.args.claim c.args.number (pair_data (get_or pairs c.args.number p)) c.in_ok-from.from c.in_ok-to.to c.between.result
    (pair_there pairs c.args.number p (omega arith)) c.in_ok-from.ensures c.in_ok-to.ensures c.between.ensures
