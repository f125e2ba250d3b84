use Rattle.wh_order_trees.proofs.KindLemmas.{binder_past, binder_read}
use Rattle.std.proofs.lemmas.Result.{IfOk-weaker}
use Rattle.std.proofs.Common.{◌∙◌}
use Rattle.wh_order_trees.proofs.kinds.kind_of_binder.Goals as goal

pub returns-then-outward-binders : goal.returns-then-outward-binders
returns-then-outward-binders c =
    IfOk-weaker c.copy.result _ _ (λ a e. e ∙ binder_read c.args.binders.now c.args.number c.index-binders-binders.result c.if-outward-binders.true c.index-binders-binders.is) c.copy.ensures

pub returns-else-outward-binders : goal.returns-else-outward-binders
returns-else-outward-binders c = binder_past c.args.binders.now c.args.number c.if-outward-binders.false
