use Rattle.std.proofs.Common.{◌≡◌, drop, map}
use Rattle.wh_order_node.specs.FilteringView.{mark_filter}
use Rattle.wh_order_node.specs.Filterings.{mark_among}
use Rattle.wh_order.proofs.kept.filtered_mark.Given as goal

abbrev pub invariant-loop-mark : goal.invariant-loop-mark
invariant-loop-mark l = mark_among (map mark_filter l.mark-items) l.symbol ≡ mark_among (map mark_filter (drop l.mark-index l.mark-items)) l.symbol
