use Rattle.std.proofs.Common.{◌≡◌, ◌≤◌, length}
use Rattle.wh_terms.specs.Places.{opened_part_at}
use Rattle.wh_terms.specs.Erase.{tm}
use Rattle.wh_terms.proofs.PassedLemmas.{from_here}
use Rattle.wh_terms.proofs.opened.opened_at.Given as goal

abbrev pub invariant-loop-step : goal.invariant-loop-step
invariant-loop-step l =
    (opened_part_at l.first l.path (tm l.initial.here) ≡ from_here l.first l.path l.step-index l.kinds.items (tm l.here))
    × (length l.kinds.items ≤ l.step-index)
