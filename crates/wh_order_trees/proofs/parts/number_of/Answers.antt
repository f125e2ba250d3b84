use Rattle.wh_order_trees.proofs.PartLemmas.{no_number}
use Rattle.wh_order_trees.proofs.parts.number_of.Goals as goal

pub returns-in_default : goal.returns-in_default
returns-in_default c = no_number c.args.t.now c.in_default.not-Free
