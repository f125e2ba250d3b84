-- Numbers that are listed under keys.
use Rattle.std.specs.Prelude.{ℕ, ◌≡◌, List, Some, slice_get, Contains}

-- the number stands in the row of the key (ours)
abbrev pub HasNumber : List (List ℕ) → ℕ → ℕ → Type 0
HasNumber rows key n = (row : List ℕ) × (slice_get rows key ≡ Some row) × Contains row n

-- what stands in a row of the first rows stands in the same row of the second ones
abbrev pub KeepsNumbers : List (List ℕ) → List (List ℕ) → Type 0
KeepsNumbers old new = (key n : ℕ) → HasNumber old key n → HasNumber new key n
