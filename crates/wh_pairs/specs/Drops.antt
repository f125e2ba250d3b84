-- The list of the pairs that a node of a proof drops from its set.
use Rattle.std.specs.Prelude.{ℕ, ◌<◌, ◌≡◌, ◌⊎◌, List, [], Some, Bool, true, false, Contains, slice_get}

-- the number stands at two places of the list
abbrev pub StandsTwice : List ℕ → ℕ → Type 0
StandsTwice list n = (i j : ℕ) × (i < j) × (slice_get list i ≡ Some n) × (slice_get list j ≡ Some n)

-- some number of the list is not in the set
abbrev pub HasStray : List ℕ → List ℕ → Type 0
HasStray set drop = (n : ℕ) × Contains drop n × (Contains set n → ⊥)

-- the list is empty, has a number twice, or has one that is not in the set
abbrev pub IsBadDrop : List ℕ → List ℕ → Type 0
IsBadDrop set drop = (drop ≡ []) ⊎ ((n : ℕ) × StandsTwice drop n) ⊎ HasStray set drop

-- whether the pair is dropped, and so has to shrink
abbrev pub IsDropped : List ℕ → ℕ → Bool → Type 0
IsDropped drop n true = Contains drop n
IsDropped drop n false = Contains drop n → ⊥
