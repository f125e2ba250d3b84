use Rattle.wh_pairs.specs.Sets.{IsSetOf}
use Rattle.wh_pairs.proofs.PlacesBefore.{StandsBefore}
use Rattle.wh_pairs.proofs.sets.distinct.Given as goal

abbrev pub invariant-loop-number : goal.invariant-loop-number
invariant-loop-number l = IsSetOf (StandsBefore l.sorted l.number-index) l.set
