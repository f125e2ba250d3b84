use Rattle.std.proofs.Common.{[]}
use Rattle.wh_order.proofs.GoalLemmas.{stand_none}
use Rattle.wh_order.proofs.SymbolGoals.{meta_refused, meta_without, meta_differs, meta_goals}
use Rattle.wh_order.proofs.letters.by_meta.Goals as goal

pub returns-in_default : goal.returns-in_default
returns-in_default c n f prec = meta_refused n f c.args.from c.args.two.now.next c.args.place prec c.args.two.now.left.now c.args.two.now.right.now c.in_default.ensures

pub returns-in_default-argument_at : goal.returns-in_default-argument_at
returns-in_default-argument_at c n f prec =
    meta_without n f c.args.from c.args.two.now.next c.args.place c.in-Some.meta prec c.args.two.now.left.now c.args.two.now.right.now c.in-Some.items.now c.in-Some.ensures c.in_default-argument_at.ensures

pub returns-then-not-is_meta_below : goal.returns-then-not-is_meta_below
returns-then-not-is_meta_below c n f prec =
    meta_differs n f c.args.from c.args.two.now.next c.args.place c.in-Some.meta prec c.args.two.now.left.now c.args.two.now.right.now c.in-Some-argument_at.item.now c.in-Some.items.now c.is_meta_below.result c.in-Some.ensures
    c.in-Some-argument_at.ensures c.is_meta_below.ensures c.if-not-is_meta_below.true

pub returns : goal.returns
returns c n f prec =
    meta_goals n f c.args.from c.args.two.now.next c.args.place c.in-Some.meta prec c.args.two.now.left.now c.args.two.now.right.now c.in-Some-argument_at.item.now c.in-Some.items.now c.is_meta_below.result _ c.in-Some.ensures
    c.in-Some-argument_at.ensures c.is_meta_below.ensures c.if-not-is_meta_below.false
    (λ w o q. c.in_ok-push_each.ensures n w [] o q (stand_none n w c.new-goals.result.items c.new-goals.ensures.items))
