use Rattle.std.proofs.Common.{◌≡◌, ◌++◌, ◌+◌, ◌*◌, take, map}
use Rattle.wh_terms.specs.Tree.{tms_of}
use Rattle.wh_terms.specs.Erase.{tm, tms}
use Rattle.wh_terms.specs.Scope.{scope}
use Rattle.wh_terms.proofs.TermLemmas.{weight, weights}
use Rattle.wh_pairs.specs.PairData.{within}
use Rattle.wh_system.specs.SystemView.{system_data}
use Rattle.wh_pairs.specs.Calls.{calls_within}
use Rattle.wh_pairs_calls.specs.CallsEach.{calls_each}
use Rattle.wh_pairs_calls.specs.Views.{call_data, trees}
use Rattle.wh_pairs_calls.proofs.calling.+calls.Given as goal

abbrev pub invariant-add_each-loop-argument : goal.invariant-add_each-loop-argument
invariant-add_each-loop-argument l =
    map call_data l.found.items
    ≡ map call_data l.initial.found.items
    ++ calls_each (system_data l.system).rules (map within l.around.conditions.now) (scope l.around.binders.now) (trees (take l.argument-index l.arguments))

abbrev pub invariant-add_within-loop-i : goal.invariant-add_within-loop-i
invariant-add_within-loop-i l =
    map call_data l.found.items
    ≡ map call_data l.initial.found.items
    ++ calls_within (system_data l.system).rules (map within l.around.conditions.now) (scope l.around.binders.now) l.meta 1 (tms (take l.i l.item-items))

-- a function that is handed the parts of a term by another one counts for a part of a step
abbrev pub decreases-add_calls : goal.decreases-add_calls
decreases-add_calls l = 4 * weight (tm l.term.now) + 2

abbrev pub decreases-add_head : goal.decreases-add_head
decreases-add_head l = 4 * weight (tm l.spine.now.head.now) + 1

abbrev pub decreases-add_each : goal.decreases-add_each
decreases-add_each l = 4 * weights (tms_of (trees l.arguments.now)) + 1

abbrev pub decreases-add_within : goal.decreases-add_within
decreases-add_within l = 4 * weights (tms l.items.now)
