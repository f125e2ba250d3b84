use Rattle.std.proofs.Common.{◌≡◌, ◌+◌}
use Rattle.wh_terms.specs.Erase.{tm}
use Rattle.wh_terms.specs.Tree.{argument_count, head}
use Rattle.wh_access.proofs.place.place_after.Given as goal

abbrev pub invariant-loop-here : goal.invariant-loop-here
invariant-loop-here l =
    (head (tm l.here) ≡ head (tm l.spine)) × (l.index + argument_count (tm l.here) ≡ argument_count (tm l.spine))
