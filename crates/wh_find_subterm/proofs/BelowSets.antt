-- The pairs of a set that are below, gathered in order.
use Rattle.std.proofs.Common.{◌≡◌, ◌≢◌, ℕ, ◌+◌, ◌<◌, ◌≤◌, inl, inr, List, [], ◌∷◌, ◌++◌, length, get_or, All, Contains, Some, slice_get, sym, ap, subst, ◌∙◌, arith}
use Rattle.std.proofs.lemmas.Option.{get_or_from_slice_get, slice_get_within}
use Rattle.wh_pairs.specs.PairData.{PairData, IsIncreasing}
use Rattle.wh_pairs.proofs.ByPlace.{contains_at, place_of, same_or_below, some_one}
use Rattle.wh_pairs.proofs.Increasing.{increasing_at}
use Rattle.wh_pairs.proofs.PairLemmas.{increasing_push}
use Rattle.wh_subterm.specs.Projections.{Below, Chosen}
use Rattle.wh_find_subterm.specs.Cases.{pair_at}
use Rattle.wh_find_subterm.specs.Found.{DropsAllBelow}
use Rattle.wh_find_subterm.specs.Reading.{IsBelowSet}
use Rattle.wh_find_subterm.proofs.Members.{contains_in, in_contains, in_either, in_left, in_right, place_in}
use Rattle.wh_find_subterm.proofs.Chosen.{pair_is}

pub below_none : (pairs : List PairData) (set : List ℕ) (args : List Chosen) → IsBelowSet pairs set args 0 []
below_none pairs set args = record {
  in_order = tt;
  from = λ n has. absurd (contains_in [] n has);
  to = λ k n less at below. absurd (omega (arith, less));
}

-- what is gathered so far is below the next number
pub below_under : (pairs : List PairData) (set : List ℕ) (args : List Chosen) (i : ℕ) (drop : List ℕ) → IsBelowSet pairs set args i drop → IsIncreasing set → i < length set → All (λ n. n < get_or set i 0) drop
below_under pairs set args i drop before up within k d inside =
    let m = get_or drop k d in
    let (j, less, there, is) = before.from m (in_contains drop m (place_in drop k d inside)) in
    let rises = increasing_at set j i up less within in
    let here = get_or_from_slice_get set j m 0 there in
    omega (arith, rises, here)

pub below_more : (pairs : List PairData) (set : List ℕ) (args : List Chosen) (i n : ℕ) (drop : List ℕ) → IsBelowSet pairs set args i drop → IsIncreasing set → slice_get set i ≡ Some n → Below args (pair_at pairs n)
    → IsBelowSet pairs set args (i + 1) (drop ++ n ∷ [])
below_more pairs set args i n drop before up at below = record {
  in_order = increasing_push drop n before.in_order
      (subst (λ m. All (λ (k : ℕ). k < m) drop) (get_or_from_slice_get set i n 0 at) (below_under pairs set args i drop before up (slice_get_within set i n at)));
  from = λ m has. elim (in_either drop (n ∷ []) m (contains_in (drop ++ n ∷ []) m has)) [
    | inl old ↦ let (k, less, there, is) = before.from m (in_contains drop m old) in (k, omega (arith, less), there, is)
    | inr new ↦ elim new [
      | inl same ↦ (i, omega arith, at ∙ ap Some same, subst (λ q. Below args (pair_at pairs q)) same below)
      | inr never ↦ absurd never
    ]
  ];
  to = λ k m less there is. in_contains (drop ++ n ∷ []) m (elim (same_or_below k i less) [
    | inl same ↦ in_right drop (n ∷ []) m (inl (some_one at (ap (slice_get set) (sym same) ∙ there)))
    | inr under ↦ in_left drop (n ∷ []) m (contains_in drop m (before.to k m under there is))
  ]);
}

pub below_skip : (pairs : List PairData) (set : List ℕ) (args : List Chosen) (i n : ℕ) (drop : List ℕ) → IsBelowSet pairs set args i drop → slice_get set i ≡ Some n → (Below args (pair_at pairs n) → ⊥)
    → IsBelowSet pairs set args (i + 1) drop
below_skip pairs set args i n drop before at other = record {
  in_order = before.in_order;
  from = λ m has. let (k, less, there, is) = before.from m has in (k, omega (arith, less), there, is);
  to = λ k m less there is. elim (same_or_below k i less) [
    | inl same ↦ absurd (other (subst (λ q. Below args (pair_at pairs q)) (sym (some_one at (ap (slice_get set) (sym same) ∙ there))) is))
    | inr under ↦ before.to k m under there is
  ];
}

pub below_all : (pairs : List PairData) (set : List ℕ) (args : List Chosen) (i : ℕ) (drop : List ℕ) → IsBelowSet pairs set args i drop → length set ≤ i → IsBelowSet pairs set args (length set) drop
below_all pairs set args i drop before past = record {
  in_order = before.in_order;
  from = λ n has. let (k, less, there, is) = before.from n has in (k, slice_get_within set k n there, there, is);
  to = λ k n less there is. before.to k n (omega (arith, less, past)) there is;
}

-- what the whole list is

pub drops_all : (pairs : List PairData) (set : List ℕ) (args : List Chosen) (drop : List ℕ) → IsBelowSet pairs set args (length set) drop → DropsAllBelow pairs set args drop
drops_all pairs set args drop gathered n a has at below =
    let there = place_of set n has in
    gathered.to there.0 n (slice_get_within set there.0 n there.1) there.1 (subst (Below args) (sym (pair_is pairs n a at)) below)

pub drops_some : (pairs : List PairData) (set : List ℕ) (args : List Chosen) (drop : List ℕ) → IsBelowSet pairs set args (length set) drop → (n : ℕ) → Contains set n → Below args (pair_at pairs n) → drop ≢ []
drops_some pairs set args drop gathered n has below empty =
    let there = place_of set n has in
    contains_in [] n (subst (λ ns. Contains ns n) empty (gathered.to there.0 n (slice_get_within set there.0 n there.1) there.1 below))

pub drops_within : (pairs : List PairData) (set : List ℕ) (args : List Chosen) (drop : List ℕ) → IsBelowSet pairs set args (length set) drop → All (Contains set) drop
drops_within pairs set args drop gathered k d inside =
    let m = get_or drop k d in
    let (j, less, there, is) = gathered.from m (in_contains drop m (place_in drop k d inside)) in contains_at set j m there

pub drops_below : (pairs : List PairData) (set : List ℕ) (args : List Chosen) (drop : List ℕ) → IsBelowSet pairs set args (length set) drop → (n : ℕ) → Contains drop n → Below args (pair_at pairs n)
drops_below pairs set args drop gathered n has = let (j, less, there, is) = gathered.from n has in is
