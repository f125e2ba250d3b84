-- Lists of other lengths, other variables or arguments that are not at least the others'; else nothing is left.
use Rattle.std.proofs.Common.{◌<◌, ◌≤◌, length, refl, arith}
use Rattle.wh_polycheck.proofs.GoodWalk.{arguments_normal_here, factors_before, factors_all, factors_as_long, factors_by_lists}
use Rattle.wh_polycheck.proofs.good.are_factors_at_least.Goals as goal
use Rattle.wh_polycheck.proofs.good.are_factors_at_least.Goals.{then-item-other-via-then-item-other, then-item-other-via-else-item-other+then-not-are_arguments_at_least}

pub returns-then-items-others : goal.returns-then-items-others
returns-then-items-others c =
    let lists = factors_by_lists c.args.a.now c.args.b.now c.as_slice-items.result.now c.as_slice-others.result.now c.as_slice-items.ensures c.as_slice-others.ensures in
    (λ no. cc, λ w. absurd (let same = factors_as_long c.as_slice-items.result.now c.as_slice-others.result.now (lists.1 w) in grind (arith, same, c.if-items-others.true)))

pub are_arguments_at_least-requires-clause-left : goal.are_arguments_at_least-requires-clause-left
are_arguments_at_least-requires-clause-left c =
    arguments_normal_here c.args.a.now c.as_slice-items.result.now c.loop-i.i c.index-items-i.result c.as_slice-items.ensures c.requires.left c.loop-i-test.true c.index-items-i.is

pub are_arguments_at_least-requires-clause-right : goal.are_arguments_at_least-requires-clause-right
are_arguments_at_least-requires-clause-right c =
    let here : c.loop-i.i < length c.as_slice-others.result.now = omega (arith, c.loop-i-test.true, c.if-items-others.false) in
    arguments_normal_here c.args.b.now c.as_slice-others.result.now c.loop-i.i c.index-others-i.result c.as_slice-others.ensures c.requires.right here c.index-others-i.is

pub returns-then-item-other : goal.returns-then-item-other
returns-then-item-other c =
    let lists = factors_by_lists c.args.a.now c.args.b.now c.as_slice-items.result.now c.as_slice-others.result.now c.as_slice-items.ensures c.as_slice-others.ensures in
    let here : c.loop-i.i < length c.as_slice-others.result.now = omega (arith, c.loop-i-test.true, c.if-items-others.false) in
    elim c.then-item-other.branch [
      | then-item-other-via-then-item-other w ↦ (
        λ no. cc,
        λ f. absurd (let same = (factors_before c.as_slice-items.result.now c.as_slice-others.result.now c.loop-i.i c.index-items-i.result c.index-others-i.result c.loop-i.invariant c.loop-i-test.true here c.index-items-i.is c.index-others-i.is (lists.1 f)).0 in
            grind (arith, same, w.if-item-other.true)),
      )
      | then-item-other-via-else-item-other+then-not-are_arguments_at_least w ↦ (
        λ no. cc,
        λ f. w.if-not-are_arguments_at_least.ensures.1
            (factors_before c.as_slice-items.result.now c.as_slice-others.result.now c.loop-i.i c.index-items-i.result c.index-others-i.result c.loop-i.invariant c.loop-i-test.true here c.index-items-i.is c.index-others-i.is (lists.1 f)).1,
      )
    ]

pub returns : goal.returns
returns c =
    let lists = factors_by_lists c.args.a.now c.args.b.now c.as_slice-items.result.now c.as_slice-others.result.now c.as_slice-items.ensures c.as_slice-others.ensures in
    let past : length c.as_slice-others.result.now ≤ c.loop-i.i = omega (arith, c.loop-i-test.false, c.if-items-others.false) in
    (λ _. lists.0 (factors_all c.as_slice-items.result.now c.as_slice-others.result.now c.loop-i.i c.loop-i.invariant c.loop-i-test.false past), λ _. refl)
