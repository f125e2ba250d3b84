use Rattle.wh_order_trees.proofs.PartLemmas.{no_body}
use Rattle.wh_order_trees.proofs.parts.body_of.Goals as goal

pub returns-in_default : goal.returns-in_default
returns-in_default c = no_body c.args.t.now c.in_default.not-Lam
