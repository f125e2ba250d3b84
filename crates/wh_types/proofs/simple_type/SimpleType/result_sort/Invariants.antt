use Rattle.std.proofs.Common.{◌≡◌}
use Rattle.wh_types.specs.Erase.{ty}
use Rattle.wh_types.specs.Ty.{result_sort}
use Rattle.wh_types.proofs.simple_type.SimpleType.result_sort.Given as goal

abbrev pub invariant-loop-here : goal.invariant-loop-here
invariant-loop-here l = result_sort (ty l.here) ≡ result_sort (ty l.self)
