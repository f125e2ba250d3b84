use Rattle.std.proofs.Common.{◌≡◌, ◌+◌, ◌*◌, take}
use Rattle.wh_order_node.specs.FilteringView.{filtering_data}
use Rattle.wh_order_infer.proofs.BuildLemmas.{EachLeast}
use Rattle.wh_order_infer.proofs.build.+building.Given as goal

abbrev pub decreases-build : goal.decreases-build
decreases-build l = 3 * l.room + 1

abbrev pub decreases-build_by : goal.decreases-build_by
decreases-build_by l = 3 * l.room

abbrev pub decreases-build_each : goal.decreases-build_each
decreases-build_each l = 3 * l.room + 2

abbrev pub invariant-build_each-loop-goal : goal.invariant-build_each-loop-goal
invariant-build_each-loop-goal l =
    (l.known.filters ≡ l.fn.known.filters) × EachLeast (filtering_data l.fn.known.filters.now) l.room (take l.goal-index l.goals) l.parts
