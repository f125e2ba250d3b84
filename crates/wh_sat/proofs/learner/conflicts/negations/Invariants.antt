use Rattle.std.proofs.Common.{◌≡◌, take, map}
use Rattle.wh_sat_trail.specs.Assignment.{negated}
use Rattle.wh_sat.proofs.learner.conflicts.negations.Given as goal

abbrev pub invariant-loop-literal : goal.invariant-loop-literal
invariant-loop-literal l = l.clause ≡ map negated (take l.literal-index l.literals)
