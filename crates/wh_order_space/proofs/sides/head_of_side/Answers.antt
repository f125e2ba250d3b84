use Rattle.std.proofs.Common.{ap, sym}
use Rattle.wh_pairs.specs.PairData.{pair_data}
use Rattle.wh_polycheck.specs.Marks.{head_of_side}
use Rattle.wh_order_space.proofs.sides.head_of_side.Goals as goal

pub returns-then-right : goal.returns-then-right
returns-then-right c = ap (head_of_side (pair_data c.args.pair.now)) (sym c.if-right.true)

pub returns-else-right : goal.returns-else-right
returns-else-right c = ap (head_of_side (pair_data c.args.pair.now)) (sym c.if-right.false)
