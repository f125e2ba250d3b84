use Rattle.std.proofs.Common.{◌<◌, refl}
use Rattle.wh_types.specs.Limits.{greatest_size}
use Rattle.wh_terms.specs.Measures.{size}
use Rattle.wh_system.specs.CanonicalView.{side_of}
use Rattle.wh_system.specs.SystemView.{system_data}
use Rattle.wh_pairs.proofs.ByPlace.{contains_at}
use Rattle.wh_order_extended.specs.ExtendedSides.{extended_side}
use Rattle.wh_order_node.specs.FilteringView.{filtering_data}
use Rattle.wh_order_node.specs.Ordering.{IsNarrow}
use Rattle.wh_order_sides.specs.RuleSides.{IsWideSide}
use Rattle.wh_order_sides.proofs.BuildLemmas.{passed_on}
use Rattle.wh_order.specs.TreeSides.{IsTreeOfSide}
use Rattle.wh_order.proofs.FilteredLemmas.{rule_sifted}
use Rattle.wh_order.proofs.filtered.filtered_rule.Goals as goal

pub returns-in_err-side : goal.returns-in_err-side
returns-in_err-side c r at =
    let d = system_data c.args.system.now in
    passed_on c.from_residual.result c.in_err-side.field-0.0 (IsWideSide d.symbols r (side_of c.args.right r))
    (λ u. IsNarrow (extended_side d.symbols r (side_of c.args.right r)) × IsTreeOfSide d.symbols d.rules (filtering_data c.args.filters.now) r c.args.right u)
    (greatest_size < size (extended_side d.symbols r (side_of c.args.right r))) (greatest_size < size (extended_side d.symbols r (side_of c.args.right r)))
    c.from_residual.ensures.1 (c.in_err-side.ensures r at) (λ wide. wide)

pub returns : goal.returns
returns c r at =
    let d = system_data c.args.system.now in
    rule_sifted d.symbols d.rules (filtering_data c.args.filters.now) c.requires.filters r c.args.right c.in_ok-side.side c.as_slice.result.now c.in_ok-side.side.term c.in_ok-sift.field-0
    (c.is_well_made.ensures.rules.each r (contains_at d.rules c.args.rule r at)) (c.in_ok-side.ensures r at) c.as_slice.ensures refl c.in_ok-sift.ensures
