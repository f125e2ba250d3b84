use Rattle.wh_sat_trail.specs.Propagation.{Within}
use Rattle.wh_sat_trail.specs.State.{formula_of}
use Rattle.wh_sat_engine.proofs.engine.Engine.kept_clauses.Given as goal

abbrev pub invariant-loop-number : goal.invariant-loop-number
invariant-loop-number l = Within (formula_of l.self.trail).variables l.clauses
