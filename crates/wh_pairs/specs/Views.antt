-- The data that a list of pairs of the program stands for.
use Rattle.std.specs.Prelude.{List, map}
use Rattle.wh_pairs.specs.PairData.{PairData, pair_data}
use Rattle.wh_pairs.specs.declared.pair.Pair.{Pair}

-- what a list of pairs stands for
abbrev pub pairs_data : List Pair → List PairData
pairs_data = map pair_data
