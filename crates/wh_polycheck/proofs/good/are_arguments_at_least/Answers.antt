-- Lists of other lengths, or an argument that is not at least the other; else nothing is left.
use Rattle.std.proofs.Common.{◌<◌, ◌≤◌, length, refl, arith}
use Rattle.wh_polycheck.proofs.GoodWalk.{sorted_here, arguments_before, arguments_all, arguments_as_long, arguments_by_lists}
use Rattle.wh_polycheck.proofs.good.are_arguments_at_least.Goals as goal

pub returns-then-items-others : goal.returns-then-items-others
returns-then-items-others c =
    let lists = arguments_by_lists c.args.a.now c.args.b.now c.as_slice-items.result.now c.as_slice-others.result.now c.as_slice-items.ensures c.as_slice-others.ensures in
    (λ no. cc, λ w. absurd (let same = arguments_as_long c.as_slice-items.result.now c.as_slice-others.result.now (lists.1 w) in grind (arith, same, c.if-items-others.true)))

pub at_least-requires-clause-left : goal.at_least-requires-clause-left
at_least-requires-clause-left c =
    sorted_here c.args.a.now c.as_slice-items.result.now c.loop-i.i c.index-items-i.result c.as_slice-items.ensures c.requires.left c.loop-i-test.true c.index-items-i.is

pub at_least-requires-clause-right : goal.at_least-requires-clause-right
at_least-requires-clause-right c =
    let here : c.loop-i.i < length c.as_slice-others.result.now = omega (arith, c.loop-i-test.true, c.if-items-others.false) in
    sorted_here c.args.b.now c.as_slice-others.result.now c.loop-i.i c.index-others-i.result c.as_slice-others.ensures c.requires.right here c.index-others-i.is

pub returns-then-not-at_least : goal.returns-then-not-at_least
returns-then-not-at_least c =
    let lists = arguments_by_lists c.args.a.now c.args.b.now c.as_slice-items.result.now c.as_slice-others.result.now c.as_slice-items.ensures c.as_slice-others.ensures in
    let here : c.loop-i.i < length c.as_slice-others.result.now = omega (arith, c.loop-i-test.true, c.if-items-others.false) in (
      λ no. cc,
      λ f. c.if-not-at_least.ensures.1
          (arguments_before c.as_slice-items.result.now c.as_slice-others.result.now c.loop-i.i c.index-items-i.result c.index-others-i.result c.loop-i.invariant c.loop-i-test.true here c.index-items-i.is c.index-others-i.is (lists.1 f)),
    )

pub returns : goal.returns
returns c =
    let lists = arguments_by_lists c.args.a.now c.args.b.now c.as_slice-items.result.now c.as_slice-others.result.now c.as_slice-items.ensures c.as_slice-others.ensures in
    let past : length c.as_slice-others.result.now ≤ c.loop-i.i = omega (arith, c.loop-i-test.false, c.if-items-others.false) in
    (λ _. lists.0 (arguments_all c.as_slice-items.result.now c.as_slice-others.result.now c.loop-i.i c.loop-i.invariant c.loop-i-test.false past), λ _. refl)
