use Rattle.std.proofs.Common.{◌≡◌, ◌<◌, length, slice_get}
use Rattle.wh_types.specs.Erase.{ty}
use Rattle.wh_types.specs.Ty.{arguments}
use Rattle.wh_types.proofs.simple_type.SimpleType.argument.Given as goal

abbrev pub invariant-loop-here : goal.invariant-loop-here
invariant-loop-here l =
    (l.left < length (arguments (ty l.here)))
    × (slice_get (arguments (ty l.here)) l.left ≡ slice_get (arguments (ty l.self)) l.i)
