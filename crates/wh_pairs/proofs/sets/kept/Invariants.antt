use Rattle.wh_pairs.specs.Sets.{IsSetOf}
use Rattle.wh_pairs.proofs.SetLemmas.{KeptBefore}
use Rattle.wh_pairs.proofs.sets.kept.Given as goal

abbrev pub invariant-loop-number : goal.invariant-loop-number
invariant-loop-number l = IsSetOf (KeptBefore l.set l.drop l.number-index) l.rest
