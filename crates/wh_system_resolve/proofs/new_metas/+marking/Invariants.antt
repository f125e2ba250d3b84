use Rattle.std.proofs.Common.{drop}
use Rattle.wh_terms.specs.Erase.{tm, tms}
use Rattle.wh_terms.proofs.TermLemmas.{weight, weights}
use Rattle.wh_system_resolve.proofs.MarkLemmas.{LeftToMark}
use Rattle.wh_system_resolve.proofs.new_metas.+marking.Given as goal

abbrev pub decreases-mark_term : goal.decreases-mark_term
decreases-mark_term l = weight (tm l.term.now)

abbrev pub decreases-mark_each : goal.decreases-mark_each
decreases-mark_each l = weights (tms l.items.now)

abbrev pub invariant-mark_each-loop-item : goal.invariant-mark_each-loop-item
invariant-mark_each-loop-item l = LeftToMark l.initial.marks l.marks (tms l.item-items) (tms (drop l.item-index l.item-items))
