use Rattle.wh_sat_trail.proofs.Guarding.{Rest}
use Rattle.wh_sat_trail.proofs.assignment.Assignment.replacement_in.Given as goal

abbrev pub invariant-loop-place : goal.invariant-loop-place
invariant-loop-place l = Rest l.self.literals.items l.clause l.other l.from l.place
