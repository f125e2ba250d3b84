-- A monomial that is not there makes no move good; else the factors decide.
use Rattle.std.proofs.Common.{◌<◌, length, arith}
use Rattle.wh_polycheck.proofs.GoodWalk.{good_here, good_from, good_to, factors_normal_here}
use Rattle.wh_polycheck.proofs.good.is_good.Goals as goal

pub returns-then-from-left : goal.returns-then-from-left
returns-then-from-left c =
    (λ no. cc, λ good. absurd (let here = good_from c.args.left.now c.args.right.now c.args.item.now good in omega (arith, here, c.if-from-left.true)))

pub returns-then-to-right : goal.returns-then-to-right
returns-then-to-right c =
    (λ no. cc, λ good. absurd (let here = good_to c.args.left.now c.args.right.now c.args.item.now good in omega (arith, here, c.if-to-right.true)))

pub are_factors_at_least-requires-clause-left : goal.are_factors_at_least-requires-clause-left
are_factors_at_least-requires-clause-left c =
    let here : c.args.item.now.from < length c.args.left.now = omega (arith, c.if-from-left.false) in
    (c.requires.left.0, factors_normal_here c.requires.left.0 c.args.left.now c.args.item.now.from c.index-left-from.result c.requires.left.1 here c.index-left-from.is)

pub are_factors_at_least-requires-clause-right : goal.are_factors_at_least-requires-clause-right
are_factors_at_least-requires-clause-right c =
    let here : c.args.item.now.to < length c.args.right.now = omega (arith, c.if-to-right.false) in
    (c.requires.right.0, factors_normal_here c.requires.right.0 c.args.right.now c.args.item.now.to c.index-right-to.result c.requires.right.1 here c.index-right-to.is)

pub returns : goal.returns
returns c =
    let from : c.args.item.now.from < length c.args.left.now = omega (arith, c.if-from-left.false) in
    let to : c.args.item.now.to < length c.args.right.now = omega (arith, c.if-to-right.false) in
    let good = good_here c.args.left.now c.args.right.now c.args.item.now c.index-left-from.result c.index-right-to.result from to c.index-left-from.is c.index-right-to.is in
    (λ yes. good.0 (c.are_factors_at_least.ensures.0 yes), λ w. c.are_factors_at_least.ensures.1 (good.1 w))
