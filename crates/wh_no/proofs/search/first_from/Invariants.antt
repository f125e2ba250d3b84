-- The entries below `low` have smaller numbers, those from `high` on have not.
use Rattle.std.proofs.Common.{◌-◌, ◌≡◌, ◌<◌, ◌≤◌, ℕ, Some, length}
use Rattle.std.specs.Prelude.{slice_get}
use Rattle.wh_terms.specs.declared.subst.SubstEntry as entry
use Rattle.wh_no.proofs.search.first_from.Given as goal

abbrev pub invariant-loop-low : goal.invariant-loop-low
invariant-loop-low l =
    (l.low ≤ l.high) × (l.high ≤ length l.entries)
    × ((i : ℕ) (e : entry.SubstEntry) → i < l.low → slice_get l.entries i ≡ Some e → e.number < l.number)
    × ((i : ℕ) (e : entry.SubstEntry) → l.high ≤ i → slice_get l.entries i ≡ Some e → l.number ≤ e.number)

abbrev pub decreases-loop-low : goal.decreases-loop-low
decreases-loop-low l = l.high - l.low
