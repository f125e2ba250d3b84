use Rattle.std.proofs.Common.{◌≡◌, ◌+◌, ◌*◌, ◌≤◌, length, drop, Some}
use Rattle.wh_order_node.specs.FilteringView.{filtering_data}
use Rattle.wh_order_known.specs.Least.{NotRefuted}
use Rattle.wh_order_infer.specs.Bests.{IsBestOf, IsLeastTotal}
use Rattle.wh_order_infer.proofs.BestLemmas.{ByLetters, ByPlaces}
use Rattle.wh_order_infer.proofs.best.+counting.Given as goal

abbrev pub decreases-best : goal.decreases-best
decreases-best l = 5 * l.room + 2

abbrev pub decreases-best_by : goal.decreases-best_by
decreases-best_by l = 5 * l.room + 1

abbrev pub decreases-choice_at : goal.decreases-choice_at
decreases-choice_at l = 5 * l.room

abbrev pub decreases-total : goal.decreases-total
decreases-total l = 5 * l.room + 4

abbrev pub decreases-least : goal.decreases-least
decreases-least l = 5 * l.room + 3

abbrev pub invariant-best-loop-number : goal.invariant-best-loop-number
invariant-best-loop-number l =
    (l.known.filters ≡ l.fn.known.filters) × NotRefuted (IsBestOf (ByLetters l.number) (filtering_data l.fn.known.filters.now) l.room l.goal l.found)

abbrev pub invariant-best_by-loop-place : goal.invariant-best_by-loop-place
invariant-best_by-loop-place l =
    (l.known.filters ≡ l.fn.known.filters) × NotRefuted (IsBestOf (ByPlaces l.letter l.place) (filtering_data l.fn.known.filters.now) l.room l.goal l.found)

abbrev pub invariant-total-loop-left : goal.invariant-total-loop-left
invariant-total-loop-left l =
    (l.known.filters ≡ l.fn.known.filters) × (l.left ≤ length l.goals)
    × NotRefuted (IsLeastTotal (filtering_data l.fn.known.filters.now) l.room (drop l.left l.goals) (Some l.entries))

abbrev pub decreases-total-loop-left : goal.decreases-total-loop-left
decreases-total-loop-left l = l.left
