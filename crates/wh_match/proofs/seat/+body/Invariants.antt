use Rattle.std.proofs.Common.{◌≡◌, take}
use Rattle.wh_terms.specs.Erase.{tm, tms}
use Rattle.wh_match.specs.MatchSearch.{all_placed}
use Rattle.wh_terms.proofs.TermLemmas.{weight, weights}
use Rattle.wh_match.proofs.seat.+body.Given as goal

abbrev pub decreases-body_of : goal.decreases-body_of
decreases-body_of l = weight (tm l.term.now)

abbrev pub decreases-bodies_of : goal.decreases-bodies_of
decreases-bodies_of l = weights (tms l.items.now)

abbrev pub invariant-bodies_of-loop-item : goal.invariant-bodies_of-loop-item
invariant-bodies_of-loop-item l = all_placed (tms l.seat.args.now) l.seat.depth l.inner (tms l.bodies) ≡ tms (take l.item-index l.item-items)
