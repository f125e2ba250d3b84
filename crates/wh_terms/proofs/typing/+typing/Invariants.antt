use Rattle.std.proofs.Common.{◌≡◌, ◌+◌, ◌*◌, take}
use Rattle.wh_types.specs.Erase.{tys}
use Rattle.wh_terms.specs.Erase.{declared_metas, symbols, tms, tm}
use Rattle.wh_terms.proofs.TermLemmas.{weight, weights}
use Rattle.wh_terms.specs.Typing.{AllTyped}
use Rattle.wh_terms.specs.Scope.{scope}
use Rattle.wh_terms.proofs.typing.+typing.Given as goal

abbrev pub invariant-have_types-loop-i : goal.invariant-have_types-loop-i
invariant-have_types-loop-i l =
    (l.binders.items ≡ l.initial.binders.items)
    × AllTyped (symbols l.signature) (declared_metas l.metas) (scope l.initial.binders.items) (tms (take l.i l.terms)) (tys (take l.i l.kinds))

-- a function that is handed the parts of a term by another one counts for half a step
abbrev pub decreases-type_under : goal.decreases-type_under
decreases-type_under l = 2 * weight (tm l.term.now)

abbrev pub decreases-type_of_abstraction : goal.decreases-type_of_abstraction
decreases-type_of_abstraction l = 2 * weight (tm l.body.now) + 1

abbrev pub decreases-type_of_meta : goal.decreases-type_of_meta
decreases-type_of_meta l = 2 * weights (tms l.items.now) + 1

abbrev pub decreases-have_types : goal.decreases-have_types
decreases-have_types l = 2 * weights (tms l.items.now)
