use Rattle.std.proofs.Common.{◌≡◌, ◌<◌, ◌≤◌, ℕ, Some, slice_get}
use Rattle.wh_graph.specs.Walks.{IsSeen}
use Rattle.wh_graph.proofs.walk.first_unseen.Given as goal

abbrev pub invariant-loop-place : goal.invariant-loop-place
invariant-loop-place l = (k w : ℕ) → l.from ≤ k → k < l.place → slice_get l.row k ≡ Some w → IsSeen l.seen w
