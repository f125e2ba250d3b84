use Rattle.std.proofs.Common.{Bool, true, false}
use Rattle.std.proofs.lemmas.Result.{IfOk-weaker}
use Rattle.wh_pairs.specs.PairData.{pair_data}
use Rattle.wh_system.specs.SystemView.{system_data}
use Rattle.wh_order_node.specs.FilteringView.{filtering_data}
use Rattle.wh_order_node.specs.Ordering.{IsNarrow}
use Rattle.wh_order_trees.specs.declared.tree.Tree.{Tree}
use Rattle.wh_order.specs.TreeSides.{IsTreeOfCall, extended_pair_side}
use Rattle.wh_order_lines.proofs.Matched.{matched_some, matched_none}
use Rattle.wh_order_lines.proofs.OrderLineLemmas.{pair_between}
use Rattle.wh_order_lines.proofs.lines.pair_line.Goals as goal

pub returns : goal.returns
returns c =
    let d = system_data c.args.system.now in
    let D = filtering_data c.args.filters.now in
    let p = pair_data c.args.pair.now in
    let wide = λ (right : Bool). IsNarrow (extended_pair_side d.symbols p right) → ⊥ in
    let side = λ (right : Bool) (u : Tree). IsNarrow (extended_pair_side d.symbols p right) × IsTreeOfCall d.symbols d.rules D p right u in
    let left = matched_some c.in_ok-left.field-0 c.in-Some.left (wide false) (side false) c.in-Some.is c.in_ok-left.ensures in
    let right = matched_some c.in_ok-right.field-0 c.in-Some-2.right (wide true) (side true) c.in-Some-2.is c.in_ok-right.ensures in
    IfOk-weaker c.line_between.result _ _
    (λ found h. pair_between d.symbols d.rules D p c.in-Some.left c.in-Some-2.right found c.requires.filters (left.0, right.0) left.1 right.1 h) c.line_between.ensures

pub returns-in_default : goal.returns-in_default
returns-in_default c =
    let d = system_data c.args.system.now in
    let D = filtering_data c.args.filters.now in
    let p = pair_data c.args.pair.now in
    λ meets. matched_none c.in_ok-left.field-0 (IsNarrow (extended_pair_side d.symbols p false) → ⊥)
    (λ u. IsNarrow (extended_pair_side d.symbols p false) × IsTreeOfCall d.symbols d.rules D p false u) c.in_default.is c.in_ok-left.ensures meets.0.0

pub returns-in_default-2 : goal.returns-in_default-2
returns-in_default-2 c =
    let d = system_data c.args.system.now in
    let D = filtering_data c.args.filters.now in
    let p = pair_data c.args.pair.now in
    λ meets. matched_none c.in_ok-right.field-0 (IsNarrow (extended_pair_side d.symbols p true) → ⊥)
    (λ u. IsNarrow (extended_pair_side d.symbols p true) × IsTreeOfCall d.symbols d.rules D p true u) c.in_default-2.is c.in_ok-right.ensures meets.0.1
