use Rattle.std.proofs.Common.{◌≤◌, drop, length, map, reverse}
use Rattle.wh_terms.specs.Erase.{declared_metas, tm}
use Rattle.wh_order_node.specs.FilteringView.{filtering_data}
use Rattle.wh_order.specs.Sifted.{AreSifted}
use Rattle.wh_order.proofs.sift.sift_list.Given as goal

abbrev pub invariant-loop-left : goal.invariant-loop-left
invariant-loop-left l =
    (l.left ≤ length l.items) × AreSifted (filtering_data l.filters) (declared_metas l.metas) (map tm (drop l.left l.items)) (reverse l.results.items)

abbrev pub decreases-loop-left : goal.decreases-loop-left
decreases-loop-left l = l.left
