use Rattle.std.proofs.Common.{◌≡◌, ◌+◌, length}
use Rattle.wh_types.specs.Erase.{ty}
use Rattle.wh_types.specs.Ty.{arguments}
use Rattle.wh_types.proofs.simple_type.SimpleType.arity.Given as goal

abbrev pub invariant-loop-here : goal.invariant-loop-here
invariant-loop-here l = l.count + length (arguments (ty l.here)) ≡ length (arguments (ty l.self))
