use Rattle.std.proofs.Common.{◌≡◌, take}
use Rattle.wh_poly_blocking.proofs.clauses.copy_clauses.Given as goal

abbrev pub invariant-loop-clause : goal.invariant-loop-clause
invariant-loop-clause l = l.made ≡ take l.clause-index l.clauses
