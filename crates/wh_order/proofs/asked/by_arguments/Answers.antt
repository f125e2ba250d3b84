use Rattle.std.proofs.Common.{[], arith}
use Rattle.wh_order_inference.specs.Said.{inferences}
use Rattle.wh_order.proofs.GoalLemmas.{stand_none}
use Rattle.wh_order.proofs.AskedGoals.{left_no_application, right_no_application, applications_with_place, applications_of_counts, applications_of_heads, applications_not_strict, applications_goals}
use Rattle.wh_order.proofs.asked.by_arguments.Goals as goal

pub returns-in_default : goal.returns-in_default
returns-in_default c n prec = left_no_application n prec c.args.two.now.next c.args.place c.args.two.now.left.now c.args.two.now.right.now (inferences c.args.parts.now) c.in_default.ensures

pub returns-in_default-application_of : goal.returns-in_default-application_of
returns-in_default-application_of c n prec =
    right_no_application n prec c.args.two.now.next c.args.place c.args.two.now.left.now c.args.two.now.right.now (inferences c.args.parts.now) c.in_default-application_of.ensures

pub returns-then-place-ne0 : goal.returns-then-place-ne0
returns-then-place-ne0 c n prec =
    applications_with_place n prec c.args.two.now.next c.args.place c.args.two.now.left.now c.args.two.now.right.now c.in-Some.head.now c.in-Some-application_of.other.now c.in-Some.items.now
    c.in-Some-application_of.others.now (inferences c.args.parts.now) c.in-Some.ensures c.in-Some-application_of.ensures (omega (arith, c.if-place-ne0.true))

pub returns-then-items-others : goal.returns-then-items-others
returns-then-items-others c n prec =
    applications_of_counts n prec c.args.two.now.next c.args.place c.args.two.now.left.now c.args.two.now.right.now c.in-Some.head.now c.in-Some-application_of.other.now c.in-Some.items.now
    c.in-Some-application_of.others.now (inferences c.args.parts.now) c.in-Some.ensures c.in-Some-application_of.ensures (λ e. absurd (omega arith))

pub returns-then-not-same_tree : goal.returns-then-not-same_tree
returns-then-not-same_tree c n prec =
    applications_of_heads n prec c.args.two.now.next c.args.place c.args.two.now.left.now c.args.two.now.right.now c.in-Some.head.now c.in-Some-application_of.other.now c.in-Some.items.now
    c.in-Some-application_of.others.now c.same_tree.result (inferences c.args.parts.now) c.in-Some.ensures c.in-Some-application_of.ensures c.same_tree.ensures c.if-not-same_tree.true

pub returns-then-not-is_some_strict : goal.returns-then-not-is_some_strict
returns-then-not-is_some_strict c n prec =
    applications_not_strict n prec c.args.two.now.next c.args.place c.args.two.now.left.now c.args.two.now.right.now c.in-Some.head.now c.in-Some-application_of.other.now c.in-Some.items.now
    c.in-Some-application_of.others.now c.is_some_strict.result (inferences c.args.parts.now) c.in-Some.ensures c.in-Some-application_of.ensures c.is_some_strict.ensures c.if-not-is_some_strict.true

pub returns : goal.returns
returns c n prec =
    applications_goals n prec c.args.two.now.next c.args.place c.args.two.now.left.now c.args.two.now.right.now c.in-Some.head.now c.in-Some-application_of.other.now c.in-Some.items.now
    c.in-Some-application_of.others.now c.same_tree.result c.is_some_strict.result (inferences c.args.parts.now) _ c.in-Some.ensures c.in-Some-application_of.ensures
    (omega (arith, c.if-place-ne0.false)) (omega arith) c.same_tree.ensures c.if-not-same_tree.false c.is_some_strict.ensures c.if-not-is_some_strict.false
    (λ w p q. c.in_ok-push_pairs.ensures n w [] p q (stand_none n w c.new-goals.result.items c.new-goals.ensures.items))
