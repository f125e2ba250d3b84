use Rattle.std.proofs.Common.{◌≡◌, take}
use Rattle.wh_terms.specs.Erase.{tm, tms}
use Rattle.wh_terms.specs.Measures.{sizes}
use Rattle.wh_terms.proofs.TermLemmas.{weight, weights}
use Rattle.wh_terms.proofs.measures.+size.Given as goal

abbrev pub decreases-size : goal.decreases-size
decreases-size l = weight (tm l.t.now)

abbrev pub decreases-total_size : goal.decreases-total_size
decreases-total_size l = weights (tms l.items.now)

abbrev pub invariant-total_size-loop-item : goal.invariant-total_size-loop-item
invariant-total_size-loop-item l = l.total ≡ sizes (tms (take l.item-index l.item-items))
