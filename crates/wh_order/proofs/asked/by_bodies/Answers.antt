use Rattle.std.proofs.Common.{arith}
use Rattle.std.proofs.lemmas.Result.{IfOk-weaker}
use Rattle.wh_order.proofs.AskedGoals.{left_no_body, right_no_body, bodies_of_types, bodies_goals}
use Rattle.wh_order.proofs.asked.by_bodies.Goals as goal

pub returns-in_default : goal.returns-in_default
returns-in_default c n prec is = left_no_body n prec c.args.two.now.next c.args.place c.args.two.now.left.now c.args.two.now.right.now is c.in_default.ensures

pub returns-in_default-body_of : goal.returns-in_default-body_of
returns-in_default-body_of c n prec is = right_no_body n prec c.args.two.now.next c.args.place c.args.two.now.left.now c.args.two.now.right.now is c.in_default-body_of.ensures

pub returns-then-not-same_type : goal.returns-then-not-same_type
returns-then-not-same_type c n prec is =
    bodies_of_types n prec c.args.two.now.next c.args.place c.args.two.now.left.now c.args.two.now.right.now c.in-Some.body.now c.in-Some-body_of.other_body.now c.in-Some.kind.now c.in-Some-body_of.other.now
    c.same_type.result is c.in-Some.ensures c.in-Some-body_of.ensures c.same_type.ensures c.if-not-same_type.true

pub returns : goal.returns
returns c =
    IfOk-weaker c.one.result _ _
    (λ r h n prec is. bodies_goals n prec c.args.two.now.next c.in_ok-sum.field-0 c.args.place c.args.two.now.left.now c.args.two.now.right.now c.in-Some.body.now c.in-Some-body_of.other_body.now
    c.in_ok-open_tree.field-0 c.in_ok-open_tree-2.field-0 c.in-Some.kind.now c.in-Some-body_of.other.now c.same_type.result is r (omega (arith, c.if-place-ne0.false)) c.in_ok-sum.ensures
    c.in-Some.ensures c.in-Some-body_of.ensures c.same_type.ensures c.if-not-same_type.false c.in_ok-open_tree.ensures.same c.in_ok-open_tree.ensures.over c.in_ok-open_tree-2.ensures.same
    c.in_ok-open_tree-2.ensures.over (λ w o p. h n w (o, p))) c.one.ensures
