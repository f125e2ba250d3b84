use Rattle.std.proofs.Common.{◌≡◌, ◌++◌}
use Rattle.wh_types.specs.Erase.{ty, tys}
use Rattle.wh_types.specs.Ty.{arguments}
use Rattle.wh_poly_covering.proofs.normality.arguments_of.Given as goal

abbrev pub invariant-loop-here : goal.invariant-loop-here
invariant-loop-here l = tys l.kinds.items ++ arguments (ty l.here) ≡ arguments (ty l.kind)
