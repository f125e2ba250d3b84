-- The factors decide, which are normal as those of normal polynomials are.
use Rattle.wh_hopoly.specs.declared.expression.Move.{Move}
use Rattle.wh_polycheck.proofs.GoodWalk.{good_here, factors_normal_here}
use Rattle.wh_poly_moves.proofs.search.can_give.Goals as goal

pub are_factors_at_least-requires-clause-left : goal.are_factors_at_least-requires-clause-left
are_factors_at_least-requires-clause-left c =
    (c.requires.left.0, factors_normal_here c.requires.left.0 c.args.left.now c.args.giver c.index-left-giver.result c.requires.left.1 c.requires.giver c.index-left-giver.is)

pub are_factors_at_least-requires-clause-right : goal.are_factors_at_least-requires-clause-right
are_factors_at_least-requires-clause-right c =
    (c.requires.right.0, factors_normal_here c.requires.right.0 c.args.right.now c.args.taker c.index-right-taker.result c.requires.right.1 c.requires.taker c.index-right-taker.is)

pub returns : goal.returns
returns c =
    let m : Move = record { from = c.args.giver; to = c.args.taker; amount = 0 } in
    let good = good_here c.args.left.now c.args.right.now m c.index-left-giver.result c.index-right-taker.result c.requires.giver c.requires.taker c.index-left-giver.is c.index-right-taker.is in
    (λ yes. good.0 (c.are_factors_at_least.ensures.0 yes), λ w. c.are_factors_at_least.ensures.1 (good.1 w))
