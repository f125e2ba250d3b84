use Rattle.std.proofs.Common.{ℕ, ◌<◌, ◌≤◌, ◌+◌, ◌-◌, length}
use Rattle.wh_hopoly.specs.Moves.{Covered}
use Rattle.wh_poly.specs.Erase.{sum_of}
use Rattle.wh_hopoly.specs.Erase.{transfers}
use Rattle.wh_polycheck.proofs.amounts.first_not_covered.Given as goal

abbrev pub decreases-loop-base : goal.decreases-loop-base
decreases-loop-base l = length l.items - l.base

abbrev pub invariant-loop-base : goal.invariant-loop-base
invariant-loop-base l = l.base ≤ length l.items + 4096 × ((i : ℕ) → i < l.base → Covered (sum_of l.items) (transfers l.moves) i)
