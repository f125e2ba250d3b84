use Rattle.wh_poly_ranges.specs.Bounds.{AreRanges}
use Rattle.wh_poly_ranges.specs.Out.{KeepsAll}
use Rattle.wh_poly_ranges.proofs.narrowing.narrow_all.Given as goal

abbrev pub invariant-conditions : goal.invariant-conditions
invariant-conditions l = record {
  ranges : AreRanges l.task l.ranges;
  kept : KeepsAll l.task l.strict l.initial.ranges l.ranges;
}
