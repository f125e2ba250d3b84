use Rattle.wh_order.proofs.BelowLemmas.{no_variable}
use Rattle.wh_order.proofs.below.is_variable.Goals as goal

pub returns-in_default : goal.returns-in_default
returns-in_default c = no_variable c.args.t.now c.args.number c.in_default.not-Bound
