-- Numbers of the drop list: whether they are in the set, and that a list that is not bad drops some, each once.
use Rattle.std.proofs.Common.{◌≡◌, ◌≢◌, ℕ, zero, suc, ◌<◌, ◌⊎◌, inl, inr, false, nat_eq, List, [], ◌∷◌, length, Some, get_or, slice_get, All, Contains, refl, sym, ap, arith}
use Rattle.std.specs.List.{AllByRecursion, IsDistinct}
use Rattle.std.specs.Cmp.{nat_eq_equiv}
use Rattle.std.proofs.lemmas.Bool.Decides.{nat_tests, Decides-eqb}
use Rattle.std.proofs.lemmas.Map.Made.{length-le_from_is_member, is_member-Decides}
use Rattle.std.proofs.lemmas.Option.{slice_get-get_or}
use Rattle.std.proofs.lemmas.Bool.{cases_eq}
use Rattle.wh_pairs.specs.Drops.{StandsTwice, HasStray, IsBadDrop}
use Rattle.wh_pairs.proofs.ByPlace.{contains_at, place_of}

pub later : (m n : ℕ) (ns : List ℕ) → Contains ns n → Contains (m ∷ ns) n
later m n ns found = let at = place_of ns n found in contains_at (m ∷ ns) (suc at.0) n at.1

pub only_later : (m n k : ℕ) (ns : List ℕ) → (m ≡ n → ⊥) → slice_get (m ∷ ns) k ≡ Some n → Contains ns n
only_later m n zero ns other at = let same : m ≡ n = cc in absurd (other same)
only_later m n (suc k) ns other at = contains_at ns k n at

pub contains_or_not : (ns : List ℕ) (n : ℕ) → Contains ns n ⊎ (Contains ns n → ⊥)
contains_or_not [] n = inr (λ (k, within, e). omega arith)
contains_or_not (m ∷ ns) n = elim (cases_eq m n) [
  | inl same ↦ inl (contains_at (m ∷ ns) 0 n (ap Some same))
  | inr other ↦ elim (contains_or_not ns n) [
    | inl found ↦ inl (later m n ns found)
    | inr missing ↦ inr (λ found. let at = place_of (m ∷ ns) n found in missing (only_later m n at.0 ns other at.1))
  ]
]

-- numbers of a set that are more than it has: one stands twice

all_apart : (n : ℕ) (ns : List ℕ) → (Contains ns n → ⊥) → AllByRecursion (λ m. nat_eq n m ≡ false) ns
all_apart n [] missing = tt
all_apart n (m ∷ ns) missing =
    let other : n ≡ m → ⊥ = λ same. missing (contains_at (m ∷ ns) 0 n (ap Some (sym same))) in
    (grind (arith, nat_tests, other), all_apart n ns (λ found. missing (later m n ns found)))

distinct_or_twice : (ns : List ℕ) → IsDistinct nat_eq ns ⊎ ((n : ℕ) × StandsTwice ns n)
unfolding IsDistinct
distinct_or_twice [] = inl tt
distinct_or_twice (n ∷ ns) = elim (contains_or_not ns n) [
  | inl found ↦ let at = place_of ns n found in inr (n, (0, suc at.0, omega arith, refl, at.1))
  | inr missing ↦ elim (distinct_or_twice ns) [
    | inl distinct ↦ inl (all_apart n ns missing, distinct)
    | inr (m, (i, j, less, at, also)) ↦ inr (m, (suc i, suc j, omega arith, at, also))
  ]
]

within_set : (set drop : List ℕ) (n : ℕ) → (HasStray set drop → ⊥) → Contains drop n → Contains set n
within_set set drop n none found = elim (contains_or_not set n) [
  | inl inside ↦ inside
  | inr missing ↦ absurd (none (n, found, missing))
]

pub longer_twice : (set drop : List ℕ) → (HasStray set drop → ⊥) → length set < length drop → (n : ℕ) × StandsTwice drop n
longer_twice set drop none longer = elim (distinct_or_twice drop) [
  | inl distinct ↦
      let few = length-le_from_is_member nat_eq_equiv drop set distinct
      (λ n found. (is_member-Decides Decides-eqb set n).1 (within_set set drop n none ((is_member-Decides Decides-eqb drop n).0 found))) in
      absurd (omega arith)
  | inr twice ↦ twice
]

pub twice_in_set : (set drop : List ℕ) (n : ℕ) → (HasStray set drop → ⊥) → StandsTwice drop n → Contains set n
twice_in_set set drop n none (i, j, less, at, also) = within_set set drop n none (contains_at drop i n at)

-- a drop list that is not bad drops some pair of the set, and none twice

pub drops_some : (set drop : List ℕ) → (IsBadDrop set drop → ⊥) → drop ≢ []
drops_some set drop good e = good (inl e)

pub drops_once : (set drop : List ℕ) → (IsBadDrop set drop → ⊥) → (i j n : ℕ) → slice_get drop i ≡ Some n → slice_get drop j ≡ Some n → i ≡ j
drops_once set drop good i j n at also =
    let above : i < j → ⊥ = λ less. good (inr (inl (n, (i, j, less, at, also)))) in
    let under : j < i → ⊥ = λ less. good (inr (inl (n, (j, i, less, also, at)))) in
    omega (arith, above, under)

pub drops_within : (set drop : List ℕ) → (IsBadDrop set drop → ⊥) → All (Contains set) drop
drops_within set drop good i d within = elim (contains_or_not set (get_or drop i d)) [
  | inl found ↦ found
  | inr missing ↦ absurd (good (inr (inr (get_or drop i d, contains_at drop i (get_or drop i d) (slice_get-get_or drop i d within), missing))))
]
