use Rattle.std.proofs.Common.{length}
use Rattle.std.proofs.lemmas.Result.{IfOk-weaker}
use Rattle.wh_order_inference.specs.Said.{letter, inferences}
use Rattle.wh_order_node.specs.FilteringView.{filtering_data}
use Rattle.wh_order.specs.Precedences.{order_of}
use Rattle.wh_order.proofs.GoalLemmas.{stand_none}
use Rattle.wh_order.proofs.AskedGoals.{same_goals, trees_differ, by_types, not_both}
use Rattle.wh_order.proofs.asked.at_least_goals.Goals as goal

pub returns-then-same_tree : goal.returns-then-same_tree
returns-then-same_tree c =
    let asked = c.asks_same.ensures.0 c.if-asks_same.true in
    same_goals (length (filtering_data c.args.filters.now).symbols) (order_of (filtering_data c.args.filters.now)) c.args.two.now.next c.args.place c.args.two.now.left.now c.args.two.now.right.now
    c.same_tree.result (letter c.args.letter) (inferences c.args.parts.now) _ asked.0 asked.1 c.same_tree.ensures c.if-same_tree.true
    (λ w. stand_none (length (filtering_data c.args.filters.now).symbols) w c.new.result.items c.new.ensures.items)

pub returns-else-same_tree : goal.returns-else-same_tree
returns-else-same_tree c =
    let asked = c.asks_same.ensures.0 c.if-asks_same.true in
    trees_differ (length (filtering_data c.args.filters.now).symbols) (order_of (filtering_data c.args.filters.now)) c.args.two.now.next c.args.place c.args.two.now.left.now c.args.two.now.right.now
    c.same_tree.result (letter c.args.letter) (inferences c.args.parts.now) asked.0 asked.1 c.same_tree.ensures c.if-same_tree.false

pub returns-else-asks_same : goal.returns-else-asks_same
returns-else-asks_same c =
    IfOk-weaker c.typed_goals.result _ _
    (λ r h. by_types (length (filtering_data c.args.filters.now).symbols) (order_of (filtering_data c.args.filters.now)) c.args.two.now.next c.args.place c.args.two.now.left.now c.args.two.now.right.now
    (letter c.args.letter) (inferences c.args.parts.now) r (not_both c.asks_same.result c.asks_same.ensures c.if-asks_same.false) h) c.typed_goals.ensures
