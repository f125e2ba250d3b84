-- The marked symbols of a set of pairs.
use Rattle.std.specs.Prelude.{ℕ, ◌≡◌, ◌⊎◌, ◌↔◌, List, Some, Contains, slice_get}
use Rattle.wh_pairs.specs.PairData.{PairData, IsIncreasing}

-- the symbol heads a side of the pair
abbrev pub HeadsASide : ℕ → PairData → Type 0
HeadsASide f a = (f ≡ a.left_fun) ⊎ (f ≡ a.right_fun)

-- `Heads pairs f n`: the symbol f heads a side of the pair number n
abbrev pub Heads : List PairData → ℕ → ℕ → Type 0
Heads pairs f n = (a : PairData) × (slice_get pairs n ≡ Some a) × HeadsASide f a

-- the symbol heads a side of a pair of the set
abbrev pub IsMarked : List PairData → List ℕ → ℕ → Type 0
IsMarked pairs set f = (n : ℕ) × Contains set n × Heads pairs f n

-- the list of them, each once in order of declaration (ours)
pub record AreMarked (pairs : List PairData) (set fs : List ℕ) : Type 0 where
  pub in_order : IsIncreasing fs
  pub each : (f : ℕ) → Contains fs f ↔ IsMarked pairs set f
