use Rattle.wh_system.specs.SystemView.{system_data}
use Rattle.wh_pairs.proofs.ByPlace.{Before}
use Rattle.wh_polycheck.specs.Marks.{marked_types}
use Rattle.wh_order_node.specs.FilteringView.{filtering_data}
use Rattle.wh_order_node.specs.Filterings.{IsProperAsWritten}
use Rattle.wh_order_check.proofs.proper.first_improper_mark.Given as goal

abbrev pub invariant-loop-mark : goal.invariant-loop-mark
invariant-loop-mark l =
    Before (λ u. IsProperAsWritten (marked_types (system_data l.system).symbols (system_data l.system).rules u.symbol) u.filter)
    (filtering_data l.filters).marks l.mark-index
