use Rattle.std.proofs.Common.{◌∙◌}
use Rattle.std.proofs.lemmas.Result.{IfOk-weaker}
use Rattle.wh_types.specs.Erase.{ty}
use Rattle.wh_order_trees.specs.Trees.{tree}
use Rattle.wh_order.proofs.OpenLemmas.{opens_top}
use Rattle.wh_order.proofs.opened.open_tree.Goals as goal

pub returns-clause-same : goal.returns-clause-same
returns-clause-same c =
    IfOk-weaker c.open_under.result _ _ (λ r h n. h n ∙ opens_top c.args.number (ty c.args.kind.now) (tree n c.args.body.now)) c.open_under.ensures.same
