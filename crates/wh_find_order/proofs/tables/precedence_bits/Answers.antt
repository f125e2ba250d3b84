use Rattle.std.proofs.Common.{◌≡◌, ◌<◌, arith}
use Rattle.wh_find_order.proofs.TableLemmas.{length_next, length_end}
use Rattle.wh_find_order.proofs.tables.precedence_bits.Goals as goal

pub loop-left-preserved : goal.loop-left-preserved
loop-left-preserved c =
    let before = c.loop-left.invariant in
    let some : 0 < c.loop-left.left = omega (arith, c.loop-left-test.true) in
    let next = length_next c.args.symbols c.loop-left.left some before.small in
    record {
      few = omega (arith, before.few, some);
      small = omega (arith, before.small);
      count = omega (arith, before.count, next);
    }

pub returns : goal.returns
returns c =
    let none : c.loop-left.left ≡ 0 = omega (arith, c.loop-left-test.false) in
    omega (arith, c.loop-left.invariant.count, length_end c.args.symbols c.loop-left.left none)
