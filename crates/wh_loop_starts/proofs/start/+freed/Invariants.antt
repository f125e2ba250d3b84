-- The head applied to the arguments so far goes on with the rest.
use Rattle.std.proofs.Common.{◌≡◌, drop}
use Rattle.wh_terms.specs.Erase.{tm, tms, declared_metas}
use Rattle.wh_terms.proofs.TermLemmas.{weight, weights}
use Rattle.wh_loop_starts.specs.Starts.{freed_spine}
use Rattle.wh_loop_starts.proofs.start.+freed.Given as goal

abbrev pub decreases-freed : goal.decreases-freed
decreases-freed l = weight (tm l.term.now)

abbrev pub decreases-applied : goal.decreases-applied
decreases-applied l = weights (tms l.items.now)

abbrev pub invariant-applied-loop-item : goal.invariant-applied-loop-item
invariant-applied-loop-item l =
    freed_spine (declared_metas l.metas) (tm l.whole) (tms (drop l.item-index l.item-items)) ≡ freed_spine (declared_metas l.metas) (tm l.initial.whole) (tms l.item-items)
