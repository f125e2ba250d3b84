use Rattle.std.proofs.Common.{◌<◌, ap, reverse}
use Rattle.wh_types.specs.Limits.{greatest_size}
use Rattle.wh_terms.specs.Erase.{declared_metas}
use Rattle.wh_terms.specs.Measures.{size}
use Rattle.wh_system.specs.SystemView.{system_data}
use Rattle.wh_pairs.specs.PairData.{pair_data}
use Rattle.wh_polycheck.specs.Marks.{head_of_side}
use Rattle.wh_order_node.specs.FilteringView.{filtering_data}
use Rattle.wh_order_node.specs.Ordering.{IsNarrow}
use Rattle.wh_order_sides.specs.PairSides.{AreWholeArguments, list_of_side}
use Rattle.wh_order_sides.proofs.BuildLemmas.{passed_on}
use Rattle.wh_order.specs.TreeSides.{IsTreeOfCall, extended_pair_side}
use Rattle.wh_order.proofs.FilteredLemmas.{pair_sifted}
use Rattle.wh_order.proofs.filtered.filtered_pair.Goals as goal

pub returns-in_err-items : goal.returns-in_err-items
returns-in_err-items c =
    let d = system_data c.args.system.now in
    let p = pair_data c.args.pair.now in
    passed_on c.from_residual.result c.in_err-items.field-0.0 (AreWholeArguments d.symbols p.metas (head_of_side p c.args.right) (list_of_side p c.args.right))
    (λ u. IsNarrow (extended_pair_side d.symbols p c.args.right) × IsTreeOfCall d.symbols d.rules (filtering_data c.args.filters.now) p c.args.right u)
    (greatest_size < size (extended_pair_side d.symbols p c.args.right)) (greatest_size < size (extended_pair_side d.symbols p c.args.right))
    c.from_residual.ensures.1 (c.in_err-items.ensures (head_of_side p c.args.right)) (λ wide. wide)

pub returns : goal.returns
returns c =
    let d = system_data c.args.system.now in
    let p = pair_data c.args.pair.now in
    pair_sifted d.symbols d.rules (filtering_data c.args.filters.now) c.requires.filters p c.args.right c.head_of_side.result c.in_ok-items.items c.as_slice-2.result.now c.as_slice.result.now
    (reverse c.in_ok-behind.behind.items) c.in_ok-filtered_mark.field-0 c.requires.typed (c.in_ok-items.ensures (head_of_side p c.args.right)) (ap declared_metas c.as_slice.ensures)
    c.as_slice-2.ensures c.head_of_side.ensures c.in_ok-behind.ensures c.in_ok-filtered_mark.ensures
