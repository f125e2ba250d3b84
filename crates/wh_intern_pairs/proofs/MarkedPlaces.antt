-- Places at which a symbol heads a side of a pair, and that it is marked.
use Rattle.std.proofs.Common.{ℕ, zero, suc, ◌<◌, ◌≤◌, ◌⊎◌, inl, inr, Option, Some, None, MatchOption, List, length, arith}
use Rattle.std.proofs.lemmas.Option.{slice_get_within}
use Rattle.wh_pairs.specs.PairData.{PairData}
use Rattle.wh_pairs.specs.Marked.{IsMarked}
use Rattle.wh_pairs.proofs.ByPlace.{contains_at, place_of}
use Rattle.wh_intern_pairs.specs.Headed.{HeadsAt}

low_or_high : (k n : ℕ) → (k < n) ⊎ (n ≤ k)
low_or_high k zero = inr (omega arith)
low_or_high zero (suc n) = inl (omega arith)
low_or_high (suc k) (suc n) = elim (low_or_high k n) [
  | inl low ↦ inl (omega (arith, low))
  | inr high ↦ inr (omega (arith, high))
]

module _ (ps : List PairData) (set : List ℕ) (f : ℕ) where
  pub marked_there : (k : ℕ) → HeadsAt ps set f k → IsMarked ps set f
  marked_there k (n, at, heads) = (n, contains_at set k n at, heads)

  place_marked : IsMarked ps set f → (k : ℕ) × (k < length set) × HeadsAt ps set f k
  place_marked (n, found, heads) = let (k, at) = place_of set n found in (k, slice_get_within set k n at, (n, at, heads))

  -- it is marked at none of the places from the one on, and of those before it the answer says where
  pub marked_before : (from : ℕ) (r : Option ℕ) → ((k : ℕ) → from ≤ k → k < length set → HeadsAt ps set f k → ⊥)
      → MatchOption r ((k : ℕ) → 0 ≤ k → k < from → HeadsAt ps set f k → ⊥) (λ k. k < length set × HeadsAt ps set f k)
      → MatchOption r (IsMarked ps set f → ⊥) (λ k. k < length set × IsMarked ps set f)
  marked_before from (Some k) behind (within, heads) = (within, marked_there k heads)
  marked_before from None behind before = λ marked. let (k, within, heads) = place_marked marked in elim (low_or_high k from) [
    | inl low ↦ before k (omega arith) low heads
    | inr high ↦ behind k high within heads
  ]
