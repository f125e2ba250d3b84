use Rattle.std.proofs.Common.{◌≡◌, ◌<◌, ◌≤◌, ℕ, Some, slice_get}
use Rattle.wh_graph.specs.Classes.{IsPlaced}
use Rattle.wh_graph.proofs.classes.first_unplaced.Given as goal

abbrev pub invariant-loop-place : goal.invariant-loop-place
invariant-loop-place l = (k w : ℕ) → l.from ≤ k → k < l.place → slice_get l.row k ≡ Some w → IsPlaced l.of w
