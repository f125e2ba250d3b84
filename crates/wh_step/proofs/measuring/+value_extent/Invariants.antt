use Rattle.std.proofs.Common.{ℕ, take}
use Rattle.wh_terms.specs.Erase.{tm, tms}
use Rattle.wh_terms.specs.Entries.{bodies}
use Rattle.wh_terms.specs.Valued.{all_valued}
use Rattle.wh_terms.proofs.TermLemmas.{weight, weights}
use Rattle.wh_step.specs.Extents.{AllKnown}
use Rattle.wh_step.proofs.measuring.+value_extent.Given as goal

abbrev pub decreases-value_extent : goal.decreases-value_extent
decreases-value_extent l = weight (tm l.term.now)

abbrev pub decreases-value_extents : goal.decreases-value_extents
decreases-value_extents l = weights (tms l.items.now)

abbrev pub invariant-value_extents-loop-item : goal.invariant-value_extents-loop-item
invariant-value_extents-loop-item l = (k : ℕ) → AllKnown (all_valued k (bodies l.by) (tms (take l.item-index l.item-items))) l.values.items
