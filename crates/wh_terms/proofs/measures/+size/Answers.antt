use Rattle.std.proofs.Common.{ap, arith}
use Rattle.wh_terms.specs.Erase.{tms}
use Rattle.wh_terms.specs.Measures.{size, sizes}
use Rattle.wh_terms.proofs.TermLemmas.{tm_of_meta, weight_in_meta, weight_in_item}
use Rattle.wh_terms.proofs.MeasureLemmas.{sizes_next, size_here}
use Rattle.wh_terms.proofs.measures.+size.Goals as goal

pub size-total_size-requires : goal.size-total_size-requires
size-total_size-requires t c = (
  omega (arith, weight_in_meta c.args.t.now c.in-Meta.field-0 c.in-Meta.items c.in-Meta.is),
  omega (arith, ap size (tm_of_meta c.args.t.now c.in-Meta.field-0 c.in-Meta.items c.in-Meta.is)),
)

pub size-overflow_add-result : goal.size-overflow_add-result
size-overflow_add-result t c =
    omega (arith, ap size (tm_of_meta c.args.t.now c.in-Meta.field-0 c.in-Meta.items c.in-Meta.is))

pub size-returns-in-Meta : goal.size-returns-in-Meta
size-returns-in-Meta t c =
    omega (arith, ap size (tm_of_meta c.args.t.now c.in-Meta.field-0 c.in-Meta.items c.in-Meta.is))

pub total_size-size-here-requires : goal.total_size-size-here-requires
total_size-size-here-requires t c =
    let xs = c.as_slice-item-items.result.now in (
      omega (arith, weight_in_item c.args.items.now xs c.loop-item.item-index c.item-item.result c.as_slice-item-items.ensures c.loop-item-test.true c.item-item.is),
      omega (arith, size_here xs c.loop-item.item-index c.item-item.result c.loop-item-test.true c.item-item.is, ap (λ ts. sizes (tms ts)) c.as_slice-item-items.ensures),
    )

pub total_size-overflow_add-total : goal.total_size-overflow_add-total
total_size-overflow_add-total t c =
    let xs = c.as_slice-item-items.result.now in
    omega (arith, size_here xs c.loop-item.item-index c.item-item.result c.loop-item-test.true c.item-item.is, ap (λ ts. sizes (tms ts)) c.as_slice-item-items.ensures)

pub total_size-loop-item-preserved : goal.total_size-loop-item-preserved
total_size-loop-item-preserved t c =
    omega (arith, sizes_next c.as_slice-item-items.result.now c.loop-item.item-index c.item-item.result c.loop-item-test.true c.item-item.is)
