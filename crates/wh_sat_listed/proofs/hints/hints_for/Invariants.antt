use Rattle.std.proofs.Common.{◌≡◌, ◌+◌, ◌-◌, length, map}
use Rattle.wh_sat_trail.specs.Assignment.{negated}
use Rattle.wh_sat_listed.specs.Leading.{IsAt}
use Rattle.wh_sat_listed.proofs.hints.hints_for.Given as goal

abbrev pub invariant-loop-hints : goal.invariant-loop-hints
invariant-loop-hints l =
    IsAt l.variables l.clauses (map negated l.clause) l.truth l.hints × (l.truth.round ≡ l.initial.truth.round)

abbrev pub decreases-loop-hints : goal.decreases-loop-hints
decreases-loop-hints l = l.variables + 1 - length l.hints
