use Rattle.std.proofs.Common.{◌≡◌, ◌+◌, ◌*◌, Some, drop}
use Rattle.wh_terms.specs.Erase.{tm, tms}
use Rattle.wh_text.specs.Erase.{rtm, rtms}
use Rattle.wh_system_resolve.specs.InScope.{scope as in_scope, type_of, typed, types_of}
use Rattle.wh_system_parts.proofs.RawTerms.{weight, weights}
use Rattle.wh_system_resolve.proofs.ResolveLemmas.{SameSpine, Part}
use Rattle.wh_system_resolve.proofs.resolve.+resolve.Given as goal

abbrev pub invariant-resolve_each-loop-item : goal.invariant-resolve_each-loop-item
invariant-resolve_each-loop-item l =
    (l.passed.items ≡ l.initial.passed.items) × Part (in_scope l.scope) (typed l.initial.passed.items) (rtms l.item-items) (tms l.trees) (types_of l.kinds) (rtms (drop l.item-index l.item-items))

abbrev pub invariant-resolve_applied-loop-item : goal.invariant-resolve_applied-loop-item
invariant-resolve_applied-loop-item l =
    (l.passed.items ≡ l.initial.passed.items)
    × SameSpine (in_scope l.scope) (typed l.initial.passed.items) (Some (tm l.initial.whole.term)) (Some (type_of l.initial.whole.kind)) (rtms l.item-items) (Some (tm l.whole.term)) (Some (type_of l.whole.kind)) (rtms (drop l.item-index l.item-items))

abbrev pub decreases-resolve_under : goal.decreases-resolve_under
decreases-resolve_under l = 2 * weight (rtm l.term.now)

abbrev pub decreases-resolve_below : goal.decreases-resolve_below
decreases-resolve_below l = 2 * weight (rtm l.body.now) + 1

abbrev pub decreases-resolve_each : goal.decreases-resolve_each
decreases-resolve_each l = 2 * weights (rtms l.items.now)

abbrev pub decreases-resolve_applied : goal.decreases-resolve_applied
decreases-resolve_applied l = 2 * weights (rtms l.items.now)
