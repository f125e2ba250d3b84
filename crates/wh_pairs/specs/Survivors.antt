-- What is known of the pairs among the candidates of a rule while these come one by one.
use Rattle.std.specs.Prelude.{List, Contains}
use Rattle.wh_pairs.specs.PairData.{PairData}
use Rattle.wh_pairs.specs.Subsumption.{IsSubsumed, ArePairs}

-- one of the pairs subsumes the candidate
abbrev pub IsSubsumedByOne : PairData → List PairData → Type 0
IsSubsumedByOne c pairs = (p : PairData) × Contains pairs p × IsSubsumed c p

-- the pairs among the candidates, and each candidate is subsumed by one of them
pub record Survive (candidates pairs : List PairData) : Type 0 where
  pub pairs_left : ArePairs candidates pairs
  pub covered : (c : PairData) → Contains candidates c → IsSubsumedByOne c pairs
