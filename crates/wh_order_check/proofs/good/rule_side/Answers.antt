use Rattle.std.proofs.Common.{◌<◌, arith}
use Rattle.wh_types.specs.Limits.{greatest_size}
use Rattle.wh_terms.specs.Measures.{size}
use Rattle.wh_system.specs.CanonicalView.{side_of}
use Rattle.wh_system.specs.SystemView.{system_data}
use Rattle.wh_order_extended.specs.ExtendedSides.{extended_side}
use Rattle.wh_order_trees.specs.declared.tree.Tree.{Tree}
use Rattle.wh_poly_covering.proofs.LineLemmas.{told_of}
use Rattle.wh_poly_covering.proofs.Walks.{some_at}
use Rattle.wh_order_check.proofs.good.rule_side.Goals as goal

pub unreachable-requires : goal.unreachable-requires
unreachable-requires c =
    let d = system_data c.args.system.now in
    let (r, at) = some_at d.rules c.args.rule c.requires.rule in
    let wide = told_of Tree c.in-Err-Because.field-0 c.in-Err-Because.field-0-0 _
    (λ _. greatest_size < size (extended_side d.symbols r (side_of c.args.right r))) c.in-Err-Because.field-0-is
    (c.in-Err-Because.ensures r at) in
    omega (arith, wide, c.requires.narrow r at)
