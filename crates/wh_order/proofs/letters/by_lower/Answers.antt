use Rattle.std.proofs.Common.{arith}
use Rattle.std.proofs.lemmas.Result.{IfOk-weaker}
use Rattle.wh_order_node.specs.FilteringView.{filtering_data}
use Rattle.wh_order.proofs.SymbolGoals.{lower_refused, lower_unheaded, lower_goals}
use Rattle.wh_order.proofs.letters.by_lower.Goals as goal

pub returns-then-low-high : goal.returns-then-low-high
returns-then-low-high c f =
    lower_refused (filtering_data c.args.filters.now) f c.args.from c.args.two.now.next c.args.place c.in-Some.low c.args.high c.args.two.now.left.now c.args.two.now.right.now c.in-Some.ensures c.if-low-high.true

pub returns-else-low-high : goal.returns-else-low-high
returns-else-low-high c =
    IfOk-weaker c.above_each.result _ _
    (λ r h f high_of. lower_goals (filtering_data c.args.filters.now) f c.args.from c.args.two.now.next c.args.place c.in-Some.low c.args.high c.args.two.now.left.now c.args.two.now.right.now r c.in-Some.ensures
    (omega (arith, c.if-place-ne0.false)) c.if-low-high.false high_of h) c.above_each.ensures

pub returns-in-None : goal.returns-in-None
returns-in-None c f high_of =
    lower_unheaded (filtering_data c.args.filters.now) f c.args.from c.args.two.now.next c.args.place c.args.two.now.left.now c.args.two.now.right.now c.in-None.ensures
