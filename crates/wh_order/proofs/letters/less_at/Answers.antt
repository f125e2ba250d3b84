use Rattle.std.proofs.Common.{◌≡◌, ◌+◌, ◌-◌, [], ◌∷◌, arith}
use Rattle.wh_order_path.specs.Verdict.{greater}
use Rattle.wh_order_trees.specs.Trees.{tree}
use Rattle.wh_order.proofs.GoalLemmas.{stand_one}
use Rattle.wh_order.proofs.SymbolGoals.{less_short, less_short_other, less_differs, less_goals}
use Rattle.wh_order.proofs.letters.less_at.Goals as goal

pub returns-then-place-items : goal.returns-then-place-items
returns-then-place-items c n f g prec e equal =
    less_short n f g c.args.from c.args.two.now.next c.args.place prec c.args.two.now.left.now c.args.two.now.right.now c.arguments_of-items.result.now c.arguments_of-items.ensures e c.if-place-items.true

pub returns-then-place-others : goal.returns-then-place-others
returns-then-place-others c n f g prec e equal =
    less_short_other n f g c.args.from c.args.two.now.next c.args.place prec c.args.two.now.left.now c.args.two.now.right.now c.arguments_of-others.result.now c.arguments_of-others.ensures e c.if-place-others.true

pub returns-then-not-same_before : goal.returns-then-not-same_before
returns-then-not-same_before c n f g prec e equal =
    let step : c.args.place - 1 + 1 ≡ c.args.place = omega arith in
    less_differs n f g c.args.from c.args.two.now.next c.args.place (c.args.place - 1) prec c.args.two.now.left.now c.args.two.now.right.now c.arguments_of-items.result.now c.arguments_of-others.result.now c.same_before.result
    c.arguments_of-items.ensures c.arguments_of-others.ensures e step c.same_before.ensures c.if-not-same_before.true

pub returns : goal.returns
returns c n f g prec e equal =
    let step : c.args.place - 1 + 1 ≡ c.args.place = omega arith in
    less_goals n f g c.args.from c.args.two.now.next c.args.place (c.args.place - 1) prec c.args.two.now.left.now c.args.two.now.right.now c.arguments_of-items.result.now c.arguments_of-others.result.now
    c.index-items-place.result c.index-others-place.result c.same_before.result _ c.arguments_of-items.ensures c.arguments_of-others.ensures e equal step c.if-place-items.false c.if-place-others.false
    c.same_before.ensures c.if-not-same_before.false c.index-items-place.is c.index-others-place.is
    (λ w o a p q. c.in_ok-push_each.ensures n w
    (record { claim = greater; next = c.args.two.now.next; left = tree n c.index-items-place.result; right = tree n c.index-others-place.result } ∷ []) o a
    (stand_one n w c.new-goals.result.items c.push.new.self.items _ c.new-goals.ensures.items c.in_ok-push.ensures.items (p, q)))
