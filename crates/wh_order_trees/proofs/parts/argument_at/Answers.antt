use Rattle.std.proofs.Common.{arith}
use Rattle.wh_order_trees.proofs.PartLemmas.{argument_is, no_argument}
use Rattle.wh_order_trees.proofs.parts.argument_at.Goals as goal

pub returns-then-place-items : goal.returns-then-place-items
returns-then-place-items c = no_argument c.args.t.now c.arguments_of-items.result.now c.args.place c.arguments_of-items.ensures (omega (arith, c.if-place-items.true))

pub returns : goal.returns
returns c =
    argument_is c.args.t.now c.arguments_of-items.result.now c.args.place c.index-items-place.result c.arguments_of-items.ensures (omega arith) (omega (arith, c.if-place-items.false))
    c.index-items-place.is
