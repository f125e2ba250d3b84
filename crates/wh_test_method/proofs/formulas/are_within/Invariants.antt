use Rattle.wh_sat_trail.specs.Assignment.{AllBelow}
use Rattle.wh_pairs.proofs.ByPlace.{Before}
use Rattle.wh_test_method.proofs.formulas.are_within.Given as goal

abbrev pub invariant-loop-clause : goal.invariant-loop-clause
invariant-loop-clause l = Before (AllBelow l.variables) l.clauses l.clause-index
