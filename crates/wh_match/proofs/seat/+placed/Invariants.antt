use Rattle.std.proofs.Common.{◌≡◌, take}
use Rattle.wh_terms.specs.Erase.{tm, tms}
use Rattle.wh_match.specs.MatchSearch.{all_placed}
use Rattle.wh_terms.proofs.TermLemmas.{weight, weights}
use Rattle.wh_match.proofs.seat.+placed.Given as goal

abbrev pub decreases-is_placed : goal.decreases-is_placed
decreases-is_placed l = weight (tm l.body.now)

abbrev pub decreases-are_placed : goal.decreases-are_placed
decreases-are_placed l = weights (tms l.bodies.now)

abbrev pub invariant-are_placed-loop-i : goal.invariant-are_placed-loop-i
invariant-are_placed-loop-i l = all_placed (tms l.seat.args.now) l.seat.depth l.inner (tms (take l.i l.items)) ≡ tms (take l.i l.others)
