use Rattle.std.proofs.Common.{subst}
use Rattle.wh_terms.specs.Erase.{tm}
use Rattle.wh_order_demands.specs.Views.{IsView}
use Rattle.wh_order_demands.proofs.plan.equal.Goals as goal

pub returns-in-Other : goal.returns-in-Other
returns-in-Other c = λ spots from to.
    c.equal_to.ensures spots (subst (IsView spots (tm c.args.left.now)) c.in-Other.is from) to
