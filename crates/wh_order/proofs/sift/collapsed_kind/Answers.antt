use Rattle.std.proofs.Common.{◌∙◌}
use Rattle.std.proofs.lemmas.Result.{IfOk-weaker}
use Rattle.wh_order.proofs.SiftLemmas.{kind_there, kind_past}
use Rattle.wh_order.proofs.sift.collapsed_kind.Goals as goal

pub returns-then-number-metas : goal.returns-then-number-metas
returns-then-number-metas c =
    IfOk-weaker c.collapse.result _ _ (λ a e. e ∙ kind_there c.args.metas.now c.args.meta c.index-metas-number.result c.if-number-metas.true) c.collapse.ensures

pub returns-else-number-metas : goal.returns-else-number-metas
returns-else-number-metas c = kind_past c.args.metas.now c.args.meta c.if-number-metas.false
