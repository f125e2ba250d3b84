use Rattle.std.proofs.Common.{length}
use Rattle.wh_sat.proofs.guide.Guide.next_ordered.Given as goal

abbrev pub decreases-loop-variable : goal.decreases-loop-variable
decreases-loop-variable l = length l.self.order.heap.items
