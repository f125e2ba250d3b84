-- `HasPairs`: a list has the dependency pairs of a system, and they are not too many.
use Rattle.std.specs.Prelude.{◌<◌, ◌≤◌, List, length}
use Rattle.wh_types.specs.Limits.{most_pairs}
use Rattle.wh_system.specs.Systems.{SystemData}
use Rattle.wh_pairs.specs.PairData.{PairData}
use Rattle.wh_pairs.specs.Candidates.{candidates}
use Rattle.wh_pairs.specs.Subsumption.{ArePairs}

-- the list has the dependency pairs of the system, and there are at most 4,096
pub record HasPairs (d : SystemData) (ps : List PairData) : Type 0 where
  pub are : ArePairs (candidates d.symbols d.rules) ps
  pub few : length ps ≤ most_pairs

-- the system has more
abbrev pub HasTooManyPairs : SystemData → Type 0
HasTooManyPairs d = (ps : List PairData) × ArePairs (candidates d.symbols d.rules) ps × (most_pairs < length ps)
