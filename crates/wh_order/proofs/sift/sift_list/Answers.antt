use Rattle.std.proofs.Common.{◌≡◌, ℕ, ◌-◌, drop, length, map, reverse, subst, arith}
use Rattle.wh_terms.specs.Erase.{declared_metas, tm}
use Rattle.wh_order_node.specs.FilteringView.{filtering_data}
use Rattle.wh_order.specs.Sifted.{AreSifted}
use Rattle.wh_order.proofs.SiftLemmas.{sifted_behind, sifted_before}
use Rattle.wh_order.proofs.sift.sift_list.Goals as goal

pub loop-left-init : goal.loop-left-init
loop-left-init c = (
  omega arith,
  sifted_behind (filtering_data c.args.filters.now) (declared_metas c.args.metas.now) c.args.items.now (length c.args.items.now) c.new-results.result.items (omega arith) c.new-results.ensures.items,
)

pub loop-left-preserved : goal.loop-left-preserved
loop-left-preserved c = (
  omega (arith, c.loop-left.invariant.0),
  sifted_before (filtering_data c.args.filters.now) (declared_metas c.args.metas.now) c.args.items.now c.loop-left.left (c.loop-left.left - 1) c.index-items-left.result c.loop-left.results.items c.push.new.self.items
      c.in_ok-sift.field-0 c.loop-left.invariant.1 (omega (arith, c.loop-left-test.true)) (omega (arith, c.loop-left-test.true, c.loop-left.invariant.0)) c.index-items-left.is c.in_ok-sift.ensures c.in_ok-push.ensures.items,
)

pub returns : goal.returns
returns c =
    let none : c.loop-left.left ≡ 0 = omega (arith, c.loop-left-test.false) in
    subst (λ (k : ℕ). AreSifted (filtering_data c.args.filters.now) (declared_metas c.args.metas.now) (map tm (drop k c.args.items.now)) (reverse c.loop-left.results.items)) none c.loop-left.invariant.1
