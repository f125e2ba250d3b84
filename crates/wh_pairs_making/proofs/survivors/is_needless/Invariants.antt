use Rattle.std.proofs.Common.{take}
use Rattle.wh_pairs.specs.PairData.{pair_data}
use Rattle.wh_pairs.specs.Survivors.{IsSubsumedByOne}
use Rattle.wh_pairs.specs.Views.{pairs_data}
use Rattle.wh_pairs_making.proofs.survivors.is_needless.Given as goal

abbrev pub invariant-loop-pair : goal.invariant-loop-pair
invariant-loop-pair l = IsSubsumedByOne (pair_data l.candidate) (pairs_data (take l.pair-index l.kept)) → ⊥
