use Rattle.wh_system.specs.SystemView.{system_data}
use Rattle.wh_pairs.proofs.ByPlace.{Before}
use Rattle.wh_poly.specs.Polynomials.{Normal}
use Rattle.wh_polycheck.specs.Marks.{marked_types}
use Rattle.wh_polycheck.specs.SideResults.{marks_of}
use Rattle.wh_poly_covering.proofs.normality.first_not_normal_mark.Given as goal

abbrev pub invariant-loop-mark : goal.invariant-loop-mark
invariant-loop-mark l =
    Before (λ u. Normal (marked_types (system_data l.system).symbols (system_data l.system).rules u.symbol) u.polynomial) (marks_of l.marks) l.mark-index
