use Rattle.std.proofs.Common.{map, take}
use Rattle.wh_terms.specs.Erase.{declared_metas, tm}
use Rattle.wh_order_node.specs.FilteringView.{filtering_data}
use Rattle.wh_order.specs.Sifted.{AreSifted}
use Rattle.wh_order.proofs.sift.+sifting.Given as goal

abbrev pub invariant-sift_each-loop-item : goal.invariant-sift_each-loop-item
invariant-sift_each-loop-item l = AreSifted (filtering_data l.filters) (declared_metas l.metas) (map tm (take l.item-index l.item-items)) l.results
