use Rattle.std.proofs.Common.{refl}
use Rattle.wh_poly.specs.Erase.{sum_of}
use Rattle.wh_polycheck.proofs.GoodWalk.{good_next, all_good}
use Rattle.wh_polycheck.proofs.good.first_bad.Goals as goal

pub loop-i-preserved : goal.loop-i-preserved
loop-i-preserved c = good_next (sum_of c.args.left.now) (sum_of c.args.right.now) c.args.moves.now c.loop-i.i _ c.loop-i.invariant c.loop-i-test.true (c.if-not-is_good.ensures.0 refl)

pub returns : goal.returns
returns c = all_good (sum_of c.args.left.now) (sum_of c.args.right.now) c.args.moves.now c.loop-i.i c.loop-i.invariant c.loop-i-test.false
