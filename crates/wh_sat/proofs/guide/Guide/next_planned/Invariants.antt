use Rattle.std.proofs.Common.{◌-◌, length}
use Rattle.wh_sat.proofs.guide.Guide.next_planned.Given as goal

abbrev pub decreases-loop-self : goal.decreases-loop-self
decreases-loop-self l = length l.self.plan.items - l.self.planned
