use Rattle.std.proofs.Common.{length}
use Rattle.wh_polycheck.proofs.AmountWalk.{over_spent_found, none_over_spent}
use Rattle.wh_polycheck.proofs.amounts.over_spent_from.Goals as goal

pub returns-then-least-width : goal.returns-then-least-width
returns-then-least-width c =
    over_spent_found c.args.items.now c.args.moves.now c.set_out-width.new.sums c.args.base c.set_out-width.result c.take_away-least.result
    c.set_out-width.ensures.set c.set_out-width.ensures.within c.if-least-width.true c.take_away-least.ensures.enough (c.take_away-least.ensures.short c.if-least-width.true)

pub returns-else-least-width : goal.returns-else-least-width
returns-else-least-width c =
    none_over_spent c.args.items.now c.args.moves.now c.set_out-width.new.sums (length c.args.sums.now) c.args.base c.set_out-width.result c.take_away-least.result
    c.set_out-width.ensures.set c.set_out-width.ensures.all c.if-least-width.false c.take_away-least.ensures.enough
