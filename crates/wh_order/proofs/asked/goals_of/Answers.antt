use Rattle.std.proofs.Common.{length}
use Rattle.std.proofs.lemmas.Result.{IfOk-weaker}
use Rattle.wh_order_inference.specs.Said.{letter, inferences}
use Rattle.wh_order_node.specs.FilteringView.{filtering_data}
use Rattle.wh_order.specs.Precedences.{order_of}
use Rattle.wh_order.proofs.AskedGoals.{goals_at_least, goals_greater, goals_above}
use Rattle.wh_order.proofs.asked.goals_of.Goals as goal

pub returns-in-AtLeast : goal.returns-in-AtLeast
returns-in-AtLeast c =
    IfOk-weaker c.at_least_goals.result _ _
    (λ r h. goals_at_least (length (filtering_data c.args.filters.now).symbols) (order_of (filtering_data c.args.filters.now)) c.args.goal.now c.tree.result.now c.tree-2.result.now
    (letter c.args.letter) c.args.place (inferences c.args.parts.now) r c.in-AtLeast.is c.tree.ensures c.tree-2.ensures h) c.at_least_goals.ensures

pub returns-in-Greater : goal.returns-in-Greater
returns-in-Greater c =
    IfOk-weaker c.typed_goals.result _ _
    (λ r h. goals_greater (length (filtering_data c.args.filters.now).symbols) (order_of (filtering_data c.args.filters.now)) c.args.goal.now c.tree.result.now c.tree-2.result.now
    (letter c.args.letter) c.args.place (inferences c.args.parts.now) r c.in-Greater.is c.tree.ensures c.tree-2.ensures h) c.typed_goals.ensures

pub returns-in-Above : goal.returns-in-Above
returns-in-Above c =
    IfOk-weaker c.above_goals.result _ _
    (λ r h. goals_above (length (filtering_data c.args.filters.now).symbols) (order_of (filtering_data c.args.filters.now)) c.args.goal.now c.tree.result.now c.tree-2.result.now
    c.in-Above.from (letter c.args.letter) c.args.place (inferences c.args.parts.now) r c.in-Above.is c.tree.ensures c.tree-2.ensures h) c.above_goals.ensures
