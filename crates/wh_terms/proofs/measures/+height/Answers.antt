use Rattle.std.proofs.Common.{ap, arith, rules}
use Rattle.wh_terms.specs.Erase.{tm, tms}
use Rattle.wh_terms.specs.Measures.{nesting}
use Rattle.wh_terms.proofs.TermLemmas.{tm_of_meta, weight_in_meta, weight_in_item, nesting_of_meta, nesting_of_item}
use Rattle.wh_terms.proofs.MeasureLemmas.{height_le, heights_le, heights_next, height_of_some, height_of_none}
use Rattle.wh_terms.proofs.measures.+height.Goals as goal

pub height-greatest_height-requires : goal.height-greatest_height-requires
height-greatest_height-requires t c = (
  omega (arith, weight_in_meta c.args.t.now c.in-Meta.field-0 c.in-Meta.items c.in-Meta.is),
  omega (arith, nesting_of_meta c.args.t.now c.in-Meta.field-0 c.in-Meta.items c.in-Meta.is),
)

pub height-overflow_add-result : goal.height-overflow_add-result
height-overflow_add-result t c =
    omega (arith, heights_le (tms c.in-Meta.items), nesting_of_meta c.args.t.now c.in-Meta.field-0 c.in-Meta.items c.in-Meta.is)

pub height-returns-then-is_empty : goal.height-returns-then-is_empty
height-returns-then-is_empty t c =
    let e = tm_of_meta c.args.t.now c.in-Meta.field-0 c.in-Meta.items c.in-Meta.is in
    omega (arith, height_of_none c.args.t.now c.in-Meta.field-0 c.in-Meta.items e (search rules))

pub height-returns-else-is_empty : goal.height-returns-else-is_empty
height-returns-else-is_empty t c =
    let e = tm_of_meta c.args.t.now c.in-Meta.field-0 c.in-Meta.items c.in-Meta.is in
    omega (arith, height_of_some c.args.t.now c.in-Meta.field-0 c.in-Meta.items e (search rules))

pub height-overflow_add-result-in-Lam : goal.height-overflow_add-result-in-Lam
height-overflow_add-result-in-Lam t c =
    omega (arith, height_le (tm c.deref.result.now), ap (λ u. nesting (tm u)) c.deref.ensures, ap (λ u. nesting (tm u)) c.in-Lam.is)

pub height-risen-requires : goal.height-risen-requires
height-risen-requires t c =
    omega (arith, height_le (tm c.deref-in-App.result.now), ap (λ u. nesting (tm u)) c.deref-in-App.ensures, ap (λ u. nesting (tm u)) c.in-App.is)

pub height-overflow_add-last : goal.height-overflow_add-last
height-overflow_add-last t c =
    omega (arith, height_le (tm c.deref-in-App-2.result.now), ap (λ u. nesting (tm u)) c.deref-in-App-2.ensures, ap (λ u. nesting (tm u)) c.in-App.is)

pub greatest_height-height-here-requires : goal.greatest_height-height-here-requires
greatest_height-height-here-requires t c =
    let xs = c.as_slice-item-items.result.now in (
      omega (arith, weight_in_item c.args.items.now xs c.loop-item.item-index c.item-item.result c.as_slice-item-items.ensures c.loop-item-test.true c.item-item.is),
      omega (arith, nesting_of_item c.args.items.now xs c.loop-item.item-index c.item-item.result c.as_slice-item-items.ensures c.loop-item-test.true c.item-item.is),
    )

pub greatest_height-loop-item-preserved : goal.greatest_height-loop-item-preserved
greatest_height-loop-item-preserved t c =
    let next = heights_next c.as_slice-item-items.result.now c.loop-item.item-index c.item-item.result c.loop-item-test.true c.item-item.is in
    search (rules, c.max-greatest.ensures, next)
