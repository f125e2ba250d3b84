use Rattle.std.proofs.Common.{◌≡◌, ◌+◌, length}
use Rattle.wh_types.specs.Erase.{ty}
use Rattle.wh_types.specs.Ty.{arguments}
use Rattle.wh_poly.proofs.variables.with_arguments.Given as goal

abbrev pub invariant-loop-here : goal.invariant-loop-here
invariant-loop-here l = l.more + length (arguments (ty l.here)) ≡ l.count + length (arguments (ty l.kind))
