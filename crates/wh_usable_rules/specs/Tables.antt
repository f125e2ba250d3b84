-- Tables of truth values by number, of which some places are entered.
use Rattle.std.specs.Prelude.{ℕ, ◌≡◌, ◌<◌, ◌⊎◌, ◌↔◌, Bool, true, List, length, Some, slice_get}

-- the table says yes of the place
abbrev pub Says : List Bool → ℕ → Type 0
Says table n = slice_get table n ≡ Some true

-- the places of which P holds are entered into the table, as far as it goes
pub record Enters (P : ℕ → Type 0) (before after : List Bool) : Type 0 where
  pub same_length : length after ≡ length before
  pub each : (n : ℕ) → n < length before → Says after n ↔ (Says before n ⊎ P n)
