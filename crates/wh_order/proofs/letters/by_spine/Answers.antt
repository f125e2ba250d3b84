use Rattle.std.proofs.Common.{[], ◌∷◌, arith}
use Rattle.wh_order_path.specs.Verdict.{above}
use Rattle.wh_order_trees.specs.Trees.{tree}
use Rattle.wh_order.proofs.GoalLemmas.{stand_one}
use Rattle.wh_order.proofs.SymbolGoals.{spine_refused, spine_goals}
use Rattle.wh_order.proofs.letters.by_spine.Goals as goal

pub returns-in_ok-push_each-in-Some : goal.returns-in_ok-push_each-in-Some
returns-in_ok-push_each-in-Some c n f prec =
    spine_goals n f c.args.from c.args.two.now.next c.args.place prec c.args.two.now.left.now c.args.two.now.right.now c.in-Some.head.now c.in-Some.items.now _ (omega (arith, c.if-place-ne0.false)) c.in-Some.ensures
    (λ w o p q. c.in_ok-push_each-in-Some.ensures n w
    (record { claim = above c.args.from; next = c.args.two.now.next; left = tree n c.args.two.now.left.now; right = tree n c.in-Some.head.now } ∷ []) o q
    (stand_one n w c.new-goals.result.items c.push.new.self.items _ c.new-goals.ensures.items c.in_ok-push-in-Some.ensures.items (o, p)))

pub returns-in-None : goal.returns-in-None
returns-in-None c n f prec = spine_refused n f c.args.from c.args.two.now.next c.args.place prec c.args.two.now.left.now c.args.two.now.right.now c.in-None.ensures
