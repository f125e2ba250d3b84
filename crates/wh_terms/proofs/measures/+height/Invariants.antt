use Rattle.std.proofs.Common.{◌≡◌, take}
use Rattle.wh_terms.specs.Erase.{tm, tms}
use Rattle.wh_terms.specs.Measures.{heights}
use Rattle.wh_terms.proofs.TermLemmas.{weight, weights}
use Rattle.wh_terms.proofs.measures.+height.Given as goal

abbrev pub decreases-greatest_height : goal.decreases-greatest_height
decreases-greatest_height l = weights (tms l.items.now)

abbrev pub decreases-height : goal.decreases-height
decreases-height l = weight (tm l.t.now)

abbrev pub invariant-greatest_height-loop-item : goal.invariant-greatest_height-loop-item
invariant-greatest_height-loop-item l = l.greatest ≡ heights (tms (take l.item-index l.item-items))
