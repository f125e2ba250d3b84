use Rattle.std.proofs.Common.{◌≡◌, take}
use Rattle.wh_terms.specs.Erase.{tm, tms}
use Rattle.wh_terms.specs.Entries.{bodies}
use Rattle.wh_terms.specs.Valued.{all_valued}
use Rattle.wh_terms.proofs.TermLemmas.{weight, weights}
use Rattle.wh_terms.proofs.apply.+apply.Given as goal

abbrev pub decreases-value_under : goal.decreases-value_under
decreases-value_under l = weight (tm l.term.now)

abbrev pub decreases-values_under : goal.decreases-values_under
decreases-values_under l = weights (tms l.items.now)

abbrev pub invariant-values_under-loop-item : goal.invariant-values_under-loop-item
invariant-values_under-loop-item l = tms l.values ≡ all_valued l.depth (bodies l.by) (tms (take l.item-index l.item-items))
