use Rattle.std.proofs.Common.{ap, length}
use Rattle.std.proofs.lemmas.Result.{IfOk-weaker}
use Rattle.wh_order_inference.specs.Inferences.{bodies, arguments}
use Rattle.wh_order_inference.specs.Said.{letter, inferences}
use Rattle.wh_order_node.specs.FilteringView.{filtering_data}
use Rattle.wh_order.specs.Precedences.{order_of}
use Rattle.wh_order.proofs.AskedGoals.{letters_same, greater_by_above, other_letter}
use Rattle.wh_order.proofs.asked.greater_goals.Goals as goal

pub returns-in-Lam : goal.returns-in-Lam
returns-in-Lam c =
    IfOk-weaker c.by_bodies.result _ _
    (λ r h. letters_same (length (filtering_data c.args.filters.now).symbols) (order_of (filtering_data c.args.filters.now)) c.args.two.now.next c.args.place c.args.two.now.left.now c.args.two.now.right.now
    (letter c.args.letter) bodies (inferences c.args.parts.now) r (ap letter c.in-Lam.is)
    (h (length (filtering_data c.args.filters.now).symbols) (order_of (filtering_data c.args.filters.now)) (inferences c.args.parts.now))) c.by_bodies.ensures

pub returns-in-Mono : goal.returns-in-Mono
returns-in-Mono c =
    IfOk-weaker c.by_arguments.result _ _
    (λ r h. letters_same (length (filtering_data c.args.filters.now).symbols) (order_of (filtering_data c.args.filters.now)) c.args.two.now.next c.args.place c.args.two.now.left.now c.args.two.now.right.now
    (letter c.args.letter) arguments (inferences c.args.parts.now) r (ap letter c.in-Mono.is)
    (h (length (filtering_data c.args.filters.now).symbols) (order_of (filtering_data c.args.filters.now)))) c.by_arguments.ensures

pub returns-in_default : goal.returns-in_default
returns-in_default c =
    IfOk-weaker c.above_goals.result _ _
    (λ r h. greater_by_above (length (filtering_data c.args.filters.now).symbols) (order_of (filtering_data c.args.filters.now)) c.args.two.now.next c.args.place c.args.two.now.left.now c.args.two.now.right.now
    (letter c.args.letter) (inferences c.args.parts.now) r (other_letter c.args.letter c.in_default.not-Lam c.in_default.not-Mono) h) c.above_goals.ensures
