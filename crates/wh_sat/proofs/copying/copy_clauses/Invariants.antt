use Rattle.std.proofs.Common.{◌≡◌, ◌++◌, drop}
use Rattle.wh_sat.proofs.copying.copy_clauses.Given as goal

abbrev pub invariant-loop-place : goal.invariant-loop-place
invariant-loop-place l = l.made ++ drop l.place l.all ≡ drop l.from l.all
