use Rattle.std.proofs.Common.{ℕ, ◌<◌, [], get_or}
use Rattle.wh_sat_trail.specs.Assignment.{AllBelow}
use Rattle.wh_bench_sat.proofs.dimacs.is_within.Given as goal

abbrev pub invariant-loop-clause : goal.invariant-loop-clause
invariant-loop-clause l = (k : ℕ) → k < l.clause-index → AllBelow l.formula.variables (get_or l.formula.clauses k [])
