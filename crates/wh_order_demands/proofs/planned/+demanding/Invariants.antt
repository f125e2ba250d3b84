use Rattle.std.proofs.Common.{◌+◌, ◌*◌, ◌≤◌, length}
use Rattle.wh_order_demands.specs.Plans.{parts_data}
use Rattle.wh_order_demands.specs.Planned.{MeetsFirstFrom}
use Rattle.wh_order_demands.proofs.PlannedLemmas.{MeetsFirst, MeetsAllFirst}
use Rattle.wh_order_demands.proofs.planned.+demanding.Given as goal

abbrev pub decreases-demand_of : goal.decreases-demand_of
decreases-demand_of l = 7 * l.room

abbrev pub decreases-planned : goal.decreases-planned
decreases-planned l = 7 * l.room + 6

abbrev pub decreases-whole_of : goal.decreases-whole_of
decreases-whole_of l = 7 * l.room + 5

abbrev pub decreases-order_of : goal.decreases-order_of
decreases-order_of l = 7 * l.room + 4

abbrev pub decreases-others_of : goal.decreases-others_of
decreases-others_of l = 7 * l.room + 3

abbrev pub decreases-some_of : goal.decreases-some_of
decreases-some_of l = 7 * l.room + 1

abbrev pub decreases-all_of : goal.decreases-all_of
decreases-all_of l = 7 * l.room + 1

abbrev pub decreases-first_of : goal.decreases-first_of
decreases-first_of l = 7 * l.room + 2

abbrev pub decreases-first_from : goal.decreases-first_from
decreases-first_from l = 7 * l.room + 1

abbrev pub invariant-some_of-loop-part : goal.invariant-some_of-loop-part
invariant-some_of-loop-part l = MeetsFirst l.spots (parts_data l.parts) l.part-index l.found

abbrev pub invariant-all_of-loop-part : goal.invariant-all_of-loop-part
invariant-all_of-loop-part l = MeetsAllFirst l.spots (parts_data l.parts) l.part-index l.found

abbrev pub decreases-first_of-loop-place : goal.decreases-first_of-loop-place
decreases-first_of-loop-place l = l.place

abbrev pub invariant-first_of-loop-place : goal.invariant-first_of-loop-place
invariant-first_of-loop-place l = record {
  within : l.place ≤ length l.parts;
  meets : MeetsFirstFrom l.spots l.place (parts_data l.parts) l.found;
}
