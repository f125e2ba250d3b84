use Rattle.std.proofs.Common.{ℕ, ◌<◌, get_or}
use Rattle.wh_sat_trail.specs.declared.literal.Literal.{Literal}
use Rattle.wh_bench_sat.proofs.dimacs.is_below.Given as goal

abbrev pub invariant-loop-literal : goal.invariant-loop-literal
invariant-loop-literal l = (i : ℕ) (d : Literal) → i < l.literal-index → (get_or l.clause i d).variable < l.variables
