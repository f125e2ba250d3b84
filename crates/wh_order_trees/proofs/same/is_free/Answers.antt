use Rattle.wh_types.specs.Erase.{ty}
use Rattle.wh_order_trees.proofs.SameLemmas.{other_free}
use Rattle.wh_order_trees.proofs.same.is_free.Goals as goal

pub returns-in_default : goal.returns-in_default
returns-in_default c = other_free c.args.t.now c.args.number (ty c.args.kind.now) c.in_default.not-Free
