use Rattle.wh_sat_trail.proofs.Looking.{Scan}
use Rattle.wh_sat_trail.proofs.assignment.Assignment.look.Given as goal

abbrev pub invariant-loop-literal : goal.invariant-loop-literal
invariant-loop-literal l = Scan l.self.literals.items l.clause l.literal-index l.free
