use Rattle.std.proofs.Common.{◌≡◌, ◌+◌, []}
use Rattle.wh_refute.specs.Refuting.{AreGoodBefore}
use Rattle.wh_refute.specs.Told.{Tells}
use Rattle.wh_refute.proofs.check.check_entries.Given as goal

abbrev pub invariant-loop-number : goal.invariant-loop-number
invariant-loop-number l =
    AreGoodBefore l.formula.variables l.formula.clauses l.entries l.number × Tells l.formula.variables l.truth []
    × (l.truth.round ≡ l.number + 1)
