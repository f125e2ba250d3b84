use Rattle.std.proofs.Common.{◌≤◌}
use Rattle.wh_types.specs.Erase.{ty}
use Rattle.wh_poly.specs.Added.{added_weight, added_nesting}
use Rattle.wh_poly_limits.proofs.WeightLaws.{Weighing}
use Rattle.wh_poly_limits.proofs.variables.+weigh_added.Given as goal

abbrev pub decreases-weigh_added : goal.decreases-weigh_added
decreases-weigh_added l = added_weight (ty l.kind.now)

abbrev pub invariant-loop-here : goal.invariant-loop-here
invariant-loop-here l = record {
  weighing : Weighing (added_weight (ty l.kind)) (added_weight (ty l.here)) (added_nesting (ty l.kind)) (added_nesting (ty l.here)) l.budget l.left l.depth;
  less : l.left ≤ l.budget;
}
