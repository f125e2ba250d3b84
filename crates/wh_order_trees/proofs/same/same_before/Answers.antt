use Rattle.std.proofs.Common.{◌-◌}
use Rattle.wh_order_trees.proofs.SameLemmas.{fronts_decided}
use Rattle.wh_order_trees.proofs.same.same_before.Goals as goal

pub returns : goal.returns
returns c = fronts_decided (c.args.place - 1) c.args.items.now c.args.others.now c.same_trees.result c.same_trees.ensures
