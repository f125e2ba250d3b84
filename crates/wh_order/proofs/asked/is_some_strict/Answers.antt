use Rattle.std.proofs.Common.{sym}
use Rattle.wh_order.proofs.StrictParts.{strict_here, strict_later}
use Rattle.wh_order.proofs.asked.is_some_strict.Goals as goal

pub loop-part-preserved : goal.loop-part-preserved
loop-part-preserved c =
    strict_later c.args.parts.now c.loop-part.part-index c.part-item.result c.is_same.result c.loop-part.invariant c.loop-part-test.true c.part-item.is c.is_same.ensures c.if-not-is_same.false

pub returns-then-not-is_same : goal.returns-then-not-is_same
returns-then-not-is_same c =
    sym (strict_here c.args.parts.now c.loop-part.part-index c.part-item.result c.is_same.result c.loop-part.invariant c.loop-part-test.true c.part-item.is c.is_same.ensures c.if-not-is_same.true)
