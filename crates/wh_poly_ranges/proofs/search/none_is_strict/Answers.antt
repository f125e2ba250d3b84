use Rattle.std.proofs.Common.{inl, inr, arith, sym, subst}
use Rattle.wh_poly_ranges.specs.Out.{IsOut}
use Rattle.wh_poly_ranges.proofs.Kept.{told}
use Rattle.wh_poly_ranges.proofs.Spans.{copy_out, below_next}
use Rattle.wh_poly_ranges.proofs.search.none_is_strict.Goals as goal

pub loop-strict-preserved : goal.loop-strict-preserved
loop-strict-preserved c = λ i below.
    let t = c.args.task.now in
    let here = copy_out t c.loop-strict.strict c.in_ok-span.span c.args.ranges.now c.in_ok-span.ensures.low c.in_ok-span.ensures.high
    (told c.in_ok-is_excluded.field-0 _ c.if-not-branch.false c.in_ok-is_excluded.ensures) in
    elim (below_next i c.loop-strict.strict below) [
      | inl before ↦ c.loop-strict.invariant i before
      | inr last ↦ subst (λ i. IsOut t i c.args.ranges.now) (sym last) here
    ]

pub returns : goal.returns
returns c = λ strict within. c.loop-strict.invariant strict (omega (arith, within, c.loop-strict-test.false))
