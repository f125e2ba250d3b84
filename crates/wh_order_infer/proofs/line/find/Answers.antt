use Rattle.std.proofs.Common.{IfOk, subst}
use Rattle.std.proofs.lemmas.Result.{IfOk-weaker}
use Rattle.wh_order_node.specs.FilteringView.{filtering_data}
use Rattle.wh_order_node.specs.declared.filters.Filters.{Filters}
use Rattle.wh_order_infer.specs.Bests.{IsLeastInference}
use Rattle.wh_order_infer.proofs.BuildLemmas.{line_found, line_task, line_over}
use Rattle.wh_order_infer.proofs.line.find.Goals as goal

pub returns : goal.returns
returns c =
    IfOk-weaker c.build.result _ _
    (λ r h a s t is. line_found (filtering_data c.args.filters.now) a s t c.args.goal.now r (line_task a s t c.args.goal.now is) (line_over a s t c.args.goal.now is) h)
    (subst (λ (f : Filters). IfOk c.build.result (IsLeastInference (filtering_data f) 64 c.args.goal.now)) c.in_ok-known.ensures c.build.ensures.found)
