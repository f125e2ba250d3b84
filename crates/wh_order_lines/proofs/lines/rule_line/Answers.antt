use Rattle.std.proofs.Common.{Bool, true, false}
use Rattle.std.proofs.lemmas.Result.{IfOk-weaker}
use Rattle.wh_system.specs.CanonicalView.{side_of}
use Rattle.wh_system.specs.SystemView.{system_data}
use Rattle.wh_order_extended.specs.ExtendedSides.{extended_side}
use Rattle.wh_order_node.specs.FilteringView.{filtering_data}
use Rattle.wh_order_node.specs.Ordering.{IsNarrow}
use Rattle.wh_order_trees.specs.declared.tree.Tree.{Tree}
use Rattle.wh_order.specs.TreeSides.{IsTreeOfSide}
use Rattle.wh_order_lines.proofs.Matched.{matched_some, matched_none}
use Rattle.wh_order_lines.proofs.OrderLineLemmas.{rule_found}
use Rattle.wh_order_lines.proofs.lines.rule_line.Goals as goal

pub returns : goal.returns
returns c r at =
    let d = system_data c.args.system.now in
    let D = filtering_data c.args.filters.now in
    let wide = λ (right : Bool). IsNarrow (extended_side d.symbols r (side_of right r)) → ⊥ in
    let side = λ (right : Bool) (u : Tree). IsNarrow (extended_side d.symbols r (side_of right r)) × IsTreeOfSide d.symbols d.rules D r right u in
    let left = matched_some c.in_ok-left.field-0 c.in-Some.left (wide false) (side false) c.in-Some.is (c.in_ok-left.ensures r at) in
    let right = matched_some c.in_ok-right.field-0 c.in-Some-2.right (wide true) (side true) c.in-Some-2.is (c.in_ok-right.ensures r at) in
    IfOk-weaker c.find_inference.result _ _
    (λ found h. rule_found d.symbols d.rules D r c.in-Some.left c.in-Some-2.right found c.requires.filters (left.0, right.0) left.1 right.1 h) c.find_inference.ensures

pub returns-in_default : goal.returns-in_default
returns-in_default c r at =
    let d = system_data c.args.system.now in
    let D = filtering_data c.args.filters.now in
    λ meets. matched_none c.in_ok-left.field-0 (IsNarrow (extended_side d.symbols r (side_of false r)) → ⊥)
    (λ u. IsNarrow (extended_side d.symbols r (side_of false r)) × IsTreeOfSide d.symbols d.rules D r false u) c.in_default.is (c.in_ok-left.ensures r at) meets.0.0

pub returns-in_default-2 : goal.returns-in_default-2
returns-in_default-2 c r at =
    let d = system_data c.args.system.now in
    let D = filtering_data c.args.filters.now in
    λ meets. matched_none c.in_ok-right.field-0 (IsNarrow (extended_side d.symbols r (side_of true r)) → ⊥)
    (λ u. IsNarrow (extended_side d.symbols r (side_of true r)) × IsTreeOfSide d.symbols d.rules D r true u) c.in_default-2.is (c.in_ok-right.ensures r at) meets.0.1
