use Rattle.std.proofs.Common.{◌≡◌, take}
use Rattle.wh_poly_blocking.proofs.clauses.copy_clause.Given as goal

abbrev pub invariant-loop-literal : goal.invariant-loop-literal
invariant-loop-literal l = l.clause ≡ take l.literal-index l.literals
