use Rattle.wh_poly_ranges.specs.Bounds.{AreRanges}
use Rattle.wh_poly_ranges.specs.Out.{KeepsAll}
use Rattle.wh_poly_ranges.proofs.narrowing.cut_list.Given as goal

abbrev pub invariant-loop-place : goal.invariant-loop-place
invariant-loop-place l = record {
  ranges : AreRanges l.task l.ranges;
  kept : KeepsAll l.task l.cutting.goal.strict l.initial.ranges l.ranges;
}
