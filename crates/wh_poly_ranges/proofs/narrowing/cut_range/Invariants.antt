use Rattle.wh_poly_ranges.specs.Bounds.{AreRanges}
use Rattle.wh_poly_ranges.specs.Out.{KeepsAll}
use Rattle.wh_poly_ranges.proofs.narrowing.cut_range.Given as goal

abbrev pub invariant-ends : goal.invariant-ends
invariant-ends l = record {
  ranges : AreRanges l.task l.ranges;
  kept : KeepsAll l.task l.cutting.goal.strict l.initial.ranges l.ranges;
}
