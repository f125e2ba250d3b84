use Rattle.wh_order_trees.proofs.SameLemmas.{other_bound}
use Rattle.wh_order_trees.proofs.same.is_bound.Goals as goal

pub returns-in_default : goal.returns-in_default
returns-in_default c = other_bound c.args.t.now c.args.number c.in_default.not-Bound
