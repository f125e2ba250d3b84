use Rattle.std.proofs.Common.{◌≡◌, take}
use Rattle.wh_sat_trail.specs.State.{assigned, marks_of}
use Rattle.wh_sat.specs.Solving.{decisions}
use Rattle.wh_sat.proofs.learner.Learner.decisions.Given as goal

abbrev pub invariant-loop-level : goal.invariant-loop-level
invariant-loop-level l = l.literals.items ≡ take l.level (decisions (assigned l.self.trail) (marks_of l.self.trail))
