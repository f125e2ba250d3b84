use Rattle.std.proofs.Common.{arith, rules}
use Rattle.wh_order.proofs.BelowLemmas.{nearest_next, nearest_other, nearest_past, nearest_end}
use Rattle.wh_order.proofs.below.are_nearest.Goals as goal

pub loop-item-preserved : goal.loop-item-preserved
loop-item-preserved c =
    nearest_next c.args.items.now c.args.count c.loop-item.item-index c.loop-item.left c.item-item.result c.is_variable.result c.loop-item.invariant c.loop-item-test.true c.item-item.is
    (omega arith) c.is_variable.ensures (search rules)

pub returns : goal.returns
returns c =
    nearest_end c.args.items.now c.args.count c.loop-item.item-index c.loop-item.left c.loop-item.invariant c.loop-item-test.false

pub returns-then-left-eq0 : goal.returns-then-left-eq0
returns-then-left-eq0 c =
    nearest_past c.args.items.now c.args.count c.loop-item.item-index c.loop-item.left c.item-item.result c.loop-item.invariant c.loop-item-test.true c.item-item.is c.if-left-eq0.true

pub returns-then-not-is_variable : goal.returns-then-not-is_variable
returns-then-not-is_variable c =
    nearest_other c.args.items.now c.args.count c.loop-item.item-index c.loop-item.left c.item-item.result c.is_variable.result c.loop-item.invariant c.loop-item-test.true c.item-item.is
    (omega arith) c.is_variable.ensures (search rules)
