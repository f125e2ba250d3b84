-- What stands in a list before a place.
use Rattle.std.proofs.Common.{◌≡◌, ◌↔◌, ℕ, ◌+◌, ◌<◌, ◌≤◌, ◌⊎◌, inl, inr, List, length, Some, slice_get, Contains, ap, sym, ◌∙◌, arith}
use Rattle.std.proofs.lemmas.Option.{slice_get_within}
use Rattle.wh_pairs.proofs.ByPlace.{some_one, contains_at, place_of, same_or_below}

-- what stands in a list before a place, one more at a time

abbrev pub StandsBefore : List ℕ → ℕ → ℕ → Type 0
StandsBefore xs i n = (k : ℕ) × (k < i) × (slice_get xs k ≡ Some n)

pub before_none : (xs : List ℕ) (n : ℕ) → StandsBefore xs 0 n → ⊥
before_none xs n (k, below, at) = omega arith

pub before_more : (xs : List ℕ) (i n : ℕ) → slice_get xs i ≡ Some n → (m : ℕ) → StandsBefore xs (i + 1) m ↔ (StandsBefore xs i m ⊎ (m ≡ n))
before_more xs i n at m = (
  λ (k, below, there). elim (same_or_below k i below) [
    | inl same ↦ inr (some_one (sym (ap (slice_get xs) same) ∙ there) at)
    | inr less ↦ inl (k, less, there)
  ],
  λ either. elim either [
    | inl (k, less, there) ↦ (k, omega arith, there)
    | inr same ↦ (i, omega arith, at ∙ ap Some (sym same))
  ],
)

pub before_all : (xs : List ℕ) (i : ℕ) → length xs ≤ i → (m : ℕ) → StandsBefore xs i m ↔ Contains xs m
before_all xs i past m = (
  λ (k, below, at). contains_at xs k m at,
  λ found. let at = place_of xs m found in let within = slice_get_within xs at.0 m at.1 in (at.0, omega arith, at.1),
)
