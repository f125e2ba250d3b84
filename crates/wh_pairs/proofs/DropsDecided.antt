-- Whether a list of dropped pairs is a bad one is decided.
use Rattle.std.proofs.Common.{◌≡◌, ℕ, zero, suc, ◌<◌, ◌⊎◌, inl, inr, List, [], ◌∷◌, Some, slice_get, Contains, refl, ap, arith}
use Rattle.wh_system.proofs.TypedDecided.{Decided, decided_by, both_decided}
use Rattle.wh_pairs.specs.Drops.{StandsTwice, HasStray, IsBadDrop}
use Rattle.wh_pairs.proofs.ByPlace.{some_one, contains_at, place_of}
use Rattle.wh_pairs.proofs.DropLemmas.{contains_or_not}
use Rattle.wh_pairs.proofs.Searches.{either_decided, not_decided, equal_decided, first_place}

twice_cases : (m n : ℕ) (ns : List ℕ) (i j : ℕ) → i < j → slice_get (m ∷ ns) i ≡ Some n → slice_get (m ∷ ns) j ≡ Some n
    → ((m ≡ n) × Contains ns n) ⊎ StandsTwice ns n
twice_cases m n ns zero zero less at also = absurd (omega arith)
twice_cases m n ns zero (suc j) less at also = inl (some_one refl at, contains_at ns j n also)
twice_cases m n ns (suc i) zero less at also = absurd (omega arith)
twice_cases m n ns (suc i) (suc j) less at also = inr (i, j, omega arith, at, also)

twice_from : (m n : ℕ) (ns : List ℕ) → ((m ≡ n) × Contains ns n) ⊎ StandsTwice ns n → StandsTwice (m ∷ ns) n
twice_from m n ns (inl (same, found)) = let at = place_of ns n found in (0, suc at.0, omega arith, ap (λ k. Some k) same, at.1)
twice_from m n ns (inr (i, j, less, at, also)) = (suc i, suc j, omega arith, at, also)

pub twice_decided : (ns : List ℕ) (n : ℕ) → Decided (StandsTwice ns n)
twice_decided [] n = inr (λ (i, j, less, at, also). cc)
twice_decided (m ∷ ns) n =
    decided_by (twice_from m n ns) (λ (i, j, less, at, also). twice_cases m n ns i j less at also)
    (either_decided (both_decided (equal_decided m n) (contains_or_not ns n)) (twice_decided ns n))

empty_decided : (ns : List ℕ) → Decided (ns ≡ [])
empty_decided [] = inl refl
empty_decided (n ∷ ns) = inr (λ e. cc)

some_twice_decided : (drop : List ℕ) → Decided ((n : ℕ) × StandsTwice drop n)
some_twice_decided drop = elim (first_place (StandsTwice drop) (twice_decided drop) drop) [
  | inl (i, n, at, twice, before) ↦ inl (n, twice)
  | inr none ↦ inr (λ (n, (i, j, less, at, also)). none n (contains_at drop i n at) (i, j, less, at, also))
]

stray_decided : (set drop : List ℕ) → Decided (HasStray set drop)
stray_decided set drop = elim (first_place (λ n. Contains set n → ⊥) (λ n. not_decided (contains_or_not set n)) drop) [
  | inl (i, n, at, stray, before) ↦ inl (n, contains_at drop i n at, stray)
  | inr none ↦ inr (λ (n, found, stray). none n found stray)
]

pub bad_drop_decided : (set drop : List ℕ) → Decided (IsBadDrop set drop)
bad_drop_decided set drop = either_decided (empty_decided drop) (either_decided (some_twice_decided drop) (stray_decided set drop))
