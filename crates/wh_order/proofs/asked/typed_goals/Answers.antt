use Rattle.std.proofs.Common.{Some, length}
use Rattle.wh_order_inference.specs.Said.{letter, inferences}
use Rattle.wh_order_node.specs.FilteringView.{filtering_data}
use Rattle.wh_order.specs.Precedences.{order_of}
use Rattle.wh_order.proofs.AskedGoals.{one_type_goals, two_types, no_goals}
use Rattle.wh_order.proofs.asked.typed_goals.Goals as goal

pub returns-in_default : goal.returns-in_default
returns-in_default c =
    no_goals (length (filtering_data c.args.filters.now).symbols) (order_of (filtering_data c.args.filters.now)) c.args.two.now.next c.args.place c.args.two.now.left.now c.args.two.now.right.now (letter c.args.letter)
    (inferences c.args.parts.now) c.in_ok-goals.field-0 c.in_default.is c.in_ok-goals.ensures

pub returns-then-alike : goal.returns-then-alike
returns-then-alike c =
    one_type_goals (length (filtering_data c.args.filters.now).symbols) (order_of (filtering_data c.args.filters.now)) c.args.two.now.next c.args.place c.args.two.now.left.now c.args.two.now.right.now
    c.in_ok-alike.alike (letter c.args.letter) (inferences c.args.parts.now) c.in_ok-goals.field-0 (Some c.in-Some.goals) c.in_ok-alike.ensures c.if-alike.true c.in-Some.is c.in_ok-goals.ensures

pub returns : goal.returns
returns c =
    two_types (length (filtering_data c.args.filters.now).symbols) (order_of (filtering_data c.args.filters.now)) c.args.two.now.next c.args.place c.args.two.now.left.now c.args.two.now.right.now
    c.in_ok-alike.alike (letter c.args.letter) (inferences c.args.parts.now) c.in_ok-alike.ensures c.if-alike.false
