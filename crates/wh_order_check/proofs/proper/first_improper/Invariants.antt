use Rattle.std.proofs.Common.{ℕ, ◌<◌, ◌≡◌, Some, slice_get}
use Rattle.wh_types.specs.Ty.{Ty, arguments}
use Rattle.wh_system.specs.SystemView.{system_data}
use Rattle.wh_order_inference.specs.FilterText.{WrittenFilter}
use Rattle.wh_order_node.specs.FilteringView.{filtering_data}
use Rattle.wh_order_node.specs.Filterings.{IsProperAsWritten}
use Rattle.wh_order_check.proofs.proper.first_improper.Given as goal

abbrev pub invariant-loop-i : goal.invariant-loop-i
invariant-loop-i l =
    (g : ℕ) (b : Ty) (u : WrittenFilter) → g < l.i → slice_get (system_data l.system).symbols.funs g ≡ Some b
    → slice_get (filtering_data l.filters).symbols g ≡ Some u → IsProperAsWritten (arguments b) u
