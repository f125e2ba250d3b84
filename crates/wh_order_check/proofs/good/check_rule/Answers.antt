use Rattle.std.proofs.Common.{◌≡◌, ℕ, Option, None, Some, subst}
use Rattle.wh_types.specs.Outcome.{MatchOr}
use Rattle.wh_system.specs.SystemView.{system_data}
use Rattle.wh_order_extended.specs.ExtendedSides.{extended_metas}
use Rattle.wh_order_extended.specs.Filtered.{collapsed}
use Rattle.wh_order_node.specs.FilteringView.{filtering_data}
use Rattle.wh_order_check.proofs.GoodLines.{rule_sides, rule_verdict}
use Rattle.wh_order_check.proofs.good.check_rule.Goals as goal

pub returns : goal.returns
returns c r at =
    let d = system_data c.args.system.now in
    let D = filtering_data c.args.filters.now in
    let s = c.in_ok-left.left in
    let t = c.in_ok-right.right in
    let i = c.args.line.now in
    let left = c.in_ok-left.ensures r at in
    let right = c.in_ok-right.ensures r at in
    subst (λ (v : Option ℕ). MatchOr c.first_bad.result (λ _. v ≡ None) (λ e. v ≡ Some e))
    (rule_verdict d.symbols d.rules D c.requires.filters s t i r left right)
    (c.first_bad.ensures d.symbols d.rules (collapsed (extended_metas d.symbols r))
    (rule_sides d.symbols d.rules D c.requires.filters s t i r left right))
