use Rattle.std.proofs.Common.{◌≡◌, slice_get}
use Rattle.wh_types.specs.Erase.{ty}
use Rattle.wh_types.specs.Ty.{arguments}
use Rattle.wh_access.proofs.place.argument_at.Given as goal

abbrev pub invariant-loop-here : goal.invariant-loop-here
invariant-loop-here l = slice_get (arguments (ty l.here)) l.left ≡ slice_get (arguments (ty l.kind)) l.index
