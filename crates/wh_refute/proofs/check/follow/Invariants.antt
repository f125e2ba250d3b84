use Rattle.std.proofs.Common.{◌≡◌, List}
use Rattle.wh_sat_trail.specs.declared.literal.Literal.{Literal}
use Rattle.wh_refute.specs.Told.{Tells, with_entries}
use Rattle.wh_refute.proofs.Following.{Reaches}
use Rattle.wh_refute.proofs.check.follow.Given as goal

abbrev pub invariant-loop-place : goal.invariant-loop-place
invariant-loop-place l =
    ((s : List Literal) × Tells l.variables l.truth s)
    × ((t : List Literal) → Tells l.variables l.initial.truth t → (u : List Literal) × Tells l.variables l.truth u
    × Reaches (with_entries l.before.given.now l.before.entries.now) t l.hints l.place u)
    × (l.truth.round ≡ l.initial.truth.round)
