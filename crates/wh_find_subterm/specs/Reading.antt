-- The projection that the values of a model say.
use Rattle.std.specs.Prelude.{ℕ, zero, suc, ◌+◌, ◌<◌, ◌≡◌, Bool, List, cond, map, Contains, Some, slice_get}
use Rattle.wh_pairs.specs.PairData.{PairData, IsIncreasing}
use Rattle.wh_subterm.specs.Projections.{Below, Chosen}
use Rattle.wh_find_subterm.specs.declared.rows.Row.{Row}
use Rattle.wh_find_subterm.specs.Cases.{pair_at}

-- the first of `count` variables from `first` on that is true, counted from 0; `count` where none is
abbrev pub first_true : (ℕ → Bool) → ℕ → ℕ → ℕ
first_true v first zero = zero
first_true v first (suc count) = cond (v first) zero (suc (first_true v (first + 1) count))

-- of each symbol the first argument whose variable is true
abbrev pub choice_by : (ℕ → Bool) → Row → Chosen
choice_by v r = record { symbol = r.symbol; argument = first_true v r.first r.need + 1 }

abbrev pub chosen_by : (ℕ → Bool) → List Row → List Chosen
chosen_by v rows = map (choice_by v) rows

-- the pairs at the first places of the set that are below
pub record IsBelowSet (pairs : List PairData) (set : List ℕ) (args : List Chosen) (i : ℕ) (drop : List ℕ) : Type 0 where
  pub in_order : IsIncreasing drop
  pub from : (n : ℕ) → Contains drop n → (k : ℕ) × (k < i) × (slice_get set k ≡ Some n) × Below args (pair_at pairs n)
  pub to : (k n : ℕ) → k < i → slice_get set k ≡ Some n → Below args (pair_at pairs n) → Contains drop n
