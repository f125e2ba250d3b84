use Rattle.std.proofs.Common.{sym, ◌∙◌}
use Rattle.wh_hopoly.specs.declared.expression.Move.{Move}
use Rattle.wh_poly_moves.specs.Flows.{CanGive}
use Rattle.wh_polycheck.proofs.GoodWalk.{good_here}
use Rattle.wh_poly_moves.proofs.Matching.{equal_factors_at_least, match_gives}
use Rattle.wh_poly_moves.proofs.flow.Flow.match_equal.Goals as goal

pub loop-i-preserved : goal.loop-i-preserved
loop-i-preserved c =
    let m : Move = record { from = c.loop-i.i; to = c.loop-i.j; amount = 0 } in
    let can : CanGive c.args.left.now c.args.right.now c.loop-i.i c.loop-i.j = (good_here c.args.left.now c.args.right.now m c.index-left-i.result c.index-right-j.result c.loop-i-test.true c.if-j-right.true c.index-left-i.is c.index-right-j.is).0
    (equal_factors_at_least _ _ (sym c.order_factors.ensures ∙ c.in-Equal.is)) in
    match_gives c.args.left.now c.args.right.now c.loop-i.self c.give_first.new.self c.loop-i.i c.loop-i.j c.min-amount.result c.loop-i.invariant
    (c.in_ok-give_first-in-Equal.ensures.given.flow c.args.left.now c.args.right.now c.loop-i.invariant.flow can) c.in_ok-give_first-in-Equal.ensures.joined
