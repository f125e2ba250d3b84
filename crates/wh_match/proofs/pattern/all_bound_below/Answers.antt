use Rattle.std.proofs.Common.{◌≡◌, arith}
use Rattle.wh_match.proofs.PatternLemmas.{below_next, below_at}
use Rattle.wh_match.proofs.pattern.all_bound_below.Goals as goal

pub returns-then-number-binders : goal.returns-then-number-binders
returns-then-number-binders c = (
  λ no_way. cc,
  λ all.
      let found = below_at c.args.binders c.args.items.now c.loop-item.item-index c.item-item.result c.loop-item-test.true c.item-item.is all in
      let same : c.in-Bound.number ≡ found.0 = cc (found.1, c.in-Bound.is) in
      absurd (omega (arith, found.2)),
)

pub returns-in_default : goal.returns-in_default
returns-in_default c = (
  λ no_way. cc,
  λ all.
      let found = below_at c.args.binders c.args.items.now c.loop-item.item-index c.item-item.result c.loop-item-test.true c.item-item.is all in
      absurd (c.in_default.not-Bound found.0 found.1),
)

pub loop-item-preserved : goal.loop-item-preserved
loop-item-preserved c =
    below_next c.args.binders c.args.items.now c.loop-item.item-index c.item-item.result c.in-Bound.number c.loop-item-test.true c.item-item.is c.in-Bound.is
    (omega arith) c.loop-item.invariant
