use Rattle.std.proofs.Common.{arith, subst}
use Rattle.wh_order_inference.specs.Said.{written_filter}
use Rattle.wh_order_inference.specs.declared.filter.Filter.{Filter}
use Rattle.wh_order_node.specs.Filterings.{HasPlaces}
use Rattle.wh_find_order.proofs.filters.picks_sort.Goals as goal

pub overflow_sub-place : goal.overflow_sub-place
overflow_sub-place c =
    let counted = subst (λ (f : Filter). HasPlaces (written_filter f)) c.in-Pick.is c.requires in
    omega (arith, counted)
