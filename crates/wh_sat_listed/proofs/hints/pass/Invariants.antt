use Rattle.std.proofs.Common.{◌≡◌, ◌<◌, ◌≤◌, ◌⊎◌, List, length}
use Rattle.wh_sat_trail.specs.declared.literal.Literal.{Literal}
use Rattle.wh_refute.specs.Told.{Tells}
use Rattle.wh_sat_listed.specs.Leading.{AreStuck, IsAt}
use Rattle.wh_sat_listed.proofs.hints.pass.Given as goal

abbrev pub invariant-loop-number : goal.invariant-loop-number
invariant-loop-number l =
    ((t : List Literal) × Tells l.variables l.truth t)
    × ((start : List Literal) → IsAt l.variables l.clauses start l.initial.truth l.initial.hints
    → IsAt l.variables l.clauses start l.truth l.hints)
    × (length l.initial.hints ≤ length l.hints)
    × ((length l.initial.hints < length l.hints) ⊎ AreStuck l.variables l.clauses l.truth l.number)
    × (l.truth.round ≡ l.initial.truth.round)
