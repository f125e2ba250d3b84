use Rattle.std.proofs.lemmas.Result.{IfOk-weaker}
use Rattle.wh_order_node.specs.FilteringView.{filtering_data}
use Rattle.wh_order.proofs.SymbolGoals.{less_refused, less_unheaded, less_by_place}
use Rattle.wh_order.proofs.letters.by_first_less.Goals as goal

pub returns-then-low-high : goal.returns-then-low-high
returns-then-low-high c =
    IfOk-weaker c.less_at.result _ _
    (λ r h f high_of. less_by_place (filtering_data c.args.filters.now) f c.args.from c.args.two.now.next c.args.place c.in-Some.low c.args.high c.args.two.now.left.now c.args.two.now.right.now r c.in-Some.ensures
    c.if-low-high.true high_of h) c.less_at.ensures

pub returns-else-low-high : goal.returns-else-low-high
returns-else-low-high c f =
    less_refused (filtering_data c.args.filters.now) f c.args.from c.args.two.now.next c.args.place c.in-Some.low c.args.high c.args.two.now.left.now c.args.two.now.right.now c.in-Some.ensures c.if-low-high.false

pub returns-in-None : goal.returns-in-None
returns-in-None c f high_of =
    less_unheaded (filtering_data c.args.filters.now) f c.args.from c.args.two.now.next c.args.place c.args.two.now.left.now c.args.two.now.right.now c.in-None.ensures
