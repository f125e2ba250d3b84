use Rattle.std.proofs.Common.{◌≡◌, drop}
use Rattle.wh_terms.specs.Erase.{tm}
use Rattle.wh_terms.specs.Places.{part_at}
use Rattle.wh_terms.proofs.places.subterm_at.Given as goal

abbrev pub invariant-loop-step : goal.invariant-loop-step
invariant-loop-step l = part_at (drop l.step-index l.step-items) (tm l.here) ≡ part_at l.step-items (tm l.term)
