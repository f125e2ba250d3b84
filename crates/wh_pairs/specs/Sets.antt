-- Sets of pairs, as increasing lists of their numbers.
use Rattle.std.specs.Prelude.{ℕ, ◌<◌, ◌≡◌, ◌↔◌, List, Some, length, Contains, slice_get}
use Rattle.wh_pairs.specs.PairData.{PairData, IsIncreasing}

-- the increasing list of the numbers of which P holds
pub record IsSetOf (P : ℕ → Type 0) (set : List ℕ) : Type 0 where
  pub increasing : IsIncreasing set
  pub each : (n : ℕ) → Contains set n ↔ P n

-- the set of all pairs of the list
abbrev pub IsWhole : List PairData → List ℕ → Type 0
IsWhole ps set = IsSetOf (λ n. n < length ps) set

-- the pair is one of those with the numbers of the set
abbrev pub InSet : List PairData → List ℕ → PairData → Type 0
InSet pairs set p = (n : ℕ) × Contains set n × (slice_get pairs n ≡ Some p)

-- the numbers of the set that are not dropped
abbrev pub IsKept : List ℕ → List ℕ → ℕ → Type 0
IsKept set drop n = Contains set n × (Contains drop n → ⊥)
