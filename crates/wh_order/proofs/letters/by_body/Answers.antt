use Rattle.std.proofs.Common.{arith}
use Rattle.std.proofs.lemmas.Result.{IfOk-weaker}
use Rattle.wh_order.proofs.SymbolGoals.{body_refused, body_goals}
use Rattle.wh_order.proofs.letters.by_body.Goals as goal

pub returns-in_ok-open_tree-in-Some : goal.returns-in_ok-open_tree-in-Some
returns-in_ok-open_tree-in-Some c =
    IfOk-weaker c.one.result _ _
    (λ r h n f prec. body_goals n f c.args.from c.args.two.now.next c.in_ok-sum-in-Some.field-0 c.args.place prec c.args.two.now.left.now c.args.two.now.right.now c.in-Some.inner.now c.in_ok-open_tree-in-Some.field-0
    c.in-Some.kind.now r (omega (arith, c.if-place-ne0.false)) c.in_ok-sum-in-Some.ensures c.in-Some.ensures c.in_ok-open_tree-in-Some.ensures.same c.in_ok-open_tree-in-Some.ensures.over
    (λ w o p. h n w (o, p))) c.one.ensures

pub returns-in-None : goal.returns-in-None
returns-in-None c n f prec = body_refused n f c.args.from c.args.two.now.next c.args.place prec c.args.two.now.left.now c.args.two.now.right.now c.in-None.ensures
