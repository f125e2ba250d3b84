use Rattle.wh_sat_trail.specs.Assignment.{AllBelow}
use Rattle.wh_sat_trail.specs.State.{formula_of}
use Rattle.wh_sat_engine.proofs.cut.Cut.learn.Given as goal

abbrev pub invariant-loop-place : goal.invariant-loop-place
invariant-loop-place l = AllBelow (formula_of l.trail).variables l.clause
