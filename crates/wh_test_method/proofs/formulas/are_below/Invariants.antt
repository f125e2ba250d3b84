use Rattle.std.proofs.Common.{◌<◌}
use Rattle.wh_sat_trail.specs.declared.literal.Literal.{Literal}
use Rattle.wh_pairs.proofs.ByPlace.{Before}
use Rattle.wh_test_method.proofs.formulas.are_below.Given as goal

abbrev pub invariant-loop-literal : goal.invariant-loop-literal
invariant-loop-literal l = Before (λ (x : Literal). x.variable < l.variables) l.clause l.literal-index
