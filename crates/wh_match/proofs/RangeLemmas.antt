-- A body that is found in a term is nested no deeper than the term, and its numbers are as small.
use Rattle.std.proofs.Common.{◌≡◌, ℕ, zero, suc, ◌+◌, ◌-◌, ◌<◌, ◌≤◌, ◌^◌, ◌⊎◌, inl, inr, max, Bool, true, false, List, [], ◌∷◌, length, subst, refl, ap, ap₂, sym, ◌∙◌, arith, eqb, eqb-true, ne_eqb}
use Rattle.std.specs.Prelude.{◌||◌}
use Rattle.std.specs.List.{AllByRecursion, IsDistinct, list_any}
use Rattle.std.proofs.lemmas.Map.Steps.{length-le_from_distinct_below}
use Rattle.wh_terms.specs.Tree.{Tm, bound, free, fun, meta, lam, app, Tms, none, more, count}
use Rattle.wh_terms.specs.Measures.{nesting, nestings, BoundNumbersBelow, AllBoundNumbersBelow, Manageable}
use Rattle.wh_terms.specs.Pattern.{AllBoundBelow, Misses, Distinct}
use Rattle.wh_terms.specs.Substitution.{up_renaming, rename, renames}
use Rattle.wh_terms.specs.Under.{moved}
use Rattle.wh_match.specs.MatchSearch.{placed}
use Rattle.wh_terms.proofs.BodyLemmas.{parameters-far}
use Rattle.wh_match.proofs.SeatLemmas.{number_of, seat, up_by, placed-rename}

-- distinct bound variables of k binders are at most k

numbers : Tms → List ℕ
numbers none = []
numbers (more t ts) = number_of t ∷ numbers ts

length-numbers : (ts : Tms) → length (numbers ts) ≡ count ts
unfolding numbers
length-numbers none = refl
length-numbers (more t ts) = ap suc (length-numbers ts) ∙ omega arith

other-numbers : (k i : ℕ) (ts : Tms) → AllBoundBelow k ts → Misses i ts → AllByRecursion (λ j. eqb i j ≡ false) (numbers ts)
unfolding numbers
other-numbers k i none all misses = tt
other-numbers k i (more (bound j) ts) all misses = (ne_eqb i j misses.0, other-numbers k i ts all.1 misses.1)
other-numbers k i (more (free x a) ts) all misses = absurd all
other-numbers k i (more (fun f) ts) all misses = absurd all
other-numbers k i (more (meta z us) ts) all misses = absurd all
other-numbers k i (more (lam a t) ts) all misses = absurd all
other-numbers k i (more (app t u) ts) all misses = absurd all

distinct-numbers : (k : ℕ) (ts : Tms) → AllBoundBelow k ts → Distinct ts → IsDistinct eqb (numbers ts)
unfolding numbers IsDistinct
distinct-numbers k none all distinct = tt
distinct-numbers k (more (bound j) ts) all distinct = (other-numbers k j ts all.1 distinct.0, distinct-numbers k ts all.1 distinct.1)
distinct-numbers k (more (free x a) ts) all distinct = absurd all
distinct-numbers k (more (fun f) ts) all distinct = absurd all
distinct-numbers k (more (meta z us) ts) all distinct = absurd all
distinct-numbers k (more (lam a t) ts) all distinct = absurd all
distinct-numbers k (more (app t u) ts) all distinct = absurd all

numbers-below : (k : ℕ) (ts : Tms) → AllBoundBelow k ts → (q : ℕ) → list_any (eqb q) (numbers ts) ≡ true → q < k
unfolding numbers
numbers-below k none all q e = absurd (cc)
numbers-below k (more (bound j) ts) all q e = go (eqb q j) refl e (numbers-below k ts all.1 q)
  where
    go : (r : Bool) → eqb q j ≡ r → (r || list_any (eqb q) (numbers ts)) ≡ true → (list_any (eqb q) (numbers ts) ≡ true → q < k) → q < k
    go true at any rest = let same = eqb-true q j at in let below : j < k = all.0 in omega arith
    go false at any rest = rest any
numbers-below k (more (free x a) ts) all q e = absurd all
numbers-below k (more (fun f) ts) all q e = absurd all
numbers-below k (more (meta z us) ts) all q e = absurd all
numbers-below k (more (lam a t) ts) all q e = absurd all
numbers-below k (more (app t u) ts) all q e = absurd all

count_below : (k : ℕ) (ts : Tms) → AllBoundBelow k ts → Distinct ts → count ts ≤ k
count_below k ts all distinct =
    subst (λ n. n ≤ k) (length-numbers ts) (length-le_from_distinct_below (numbers ts) k (distinct-numbers k ts all distinct) (numbers-below k ts all))

-- so a seat gives no variable a smaller number, but for those below k

seat-far : (k i : ℕ) (ts : Tms) → count ts ≤ i → seat k ts i ≡ i - count ts + k
unfolding seat moved
seat-far k i ts far = ap number_of (parameters-far ts (moved k) i (i - count ts) (omega arith))

seat_grows : (k : ℕ) (ts : Tms) → count ts ≤ k → (i : ℕ) → (i < k) ⊎ (i ≤ seat k ts i)
seat_grows k ts few i = go (suc i - k) refl
  where
    go : (n : ℕ) → suc i - k ≡ n → (i < k) ⊎ (i ≤ seat k ts i)
    go zero at = inl (omega arith)
    go (suc n) at = inr (omega (arith, seat-far k i ts (omega arith)))

up_by_grows : (c k : ℕ) (ρ : ℕ → ℕ) → ((i : ℕ) → (i < k) ⊎ (i ≤ ρ i)) → (i : ℕ) → (i < c + k) ⊎ (i ≤ up_by c ρ i)
unfolding up_by up_renaming
up_by_grows zero k ρ h i = go (h i)
  where
    go : (i < k) ⊎ (i ≤ ρ i) → (i < 0 + k) ⊎ (i ≤ ρ i)
    go (inl low) = inl (omega arith)
    go (inr high) = inr high
up_by_grows (suc c) k ρ h zero = inl (omega arith)
up_by_grows (suc c) k ρ h (suc i) = go (up_by_grows c k ρ h i)
  where
    go : (i < c + k) ⊎ (i ≤ up_by c ρ i) → (suc i < suc c + k) ⊎ (suc i ≤ suc (up_by c ρ i))
    go (inl low) = inl (omega arith)
    go (inr high) = inr (omega arith)

mutual
  unfolding rename renames

  nesting-rename : (ρ : ℕ → ℕ) (b : Tm) → nesting (rename ρ b) ≡ nesting b
  nesting-rename ρ (bound i) = refl
  nesting-rename ρ (free x a) = refl
  nesting-rename ρ (fun f) = refl
  nesting-rename ρ (meta z ts) = ap (λ n. 1 + n) (nestings-renames ρ ts)
  nesting-rename ρ (lam a t) = ap (λ n. 1 + n) (nesting-rename (up_renaming ρ) t)
  nesting-rename ρ (app t u) = ap₂ (λ m n. 1 + max m n) (nesting-rename ρ t) (nesting-rename ρ u)

  nestings-renames : (ρ : ℕ → ℕ) (bs : Tms) → nestings (renames ρ bs) ≡ nestings bs
  nestings-renames ρ none = refl
  nestings-renames ρ (more t ts) = ap₂ (λ m n. max m n) (nesting-rename ρ t) (nestings-renames ρ ts)

-- the numbers of a body are below n where those of the placed body are, and n is above all binders in sight
mutual
  unfolding rename renames up_by

  numbers-back : (n d k : ℕ) (ρ : ℕ → ℕ) → ((i : ℕ) → (i < k) ⊎ (i ≤ ρ i)) → (b : Tm) → d + k + nesting b ≤ n
      → BoundNumbersBelow n (rename (up_by d ρ) b) → BoundNumbersBelow n b
  numbers-back n d k ρ h (bound i) room below = go (up_by_grows d k ρ h i)
    where
      go : (i < d + k) ⊎ (i ≤ up_by d ρ i) → i < n
      go (inl low) = omega arith
      go (inr high) = omega arith
  numbers-back n d k ρ h (free x a) room below = tt
  numbers-back n d k ρ h (fun f) room below = tt
  numbers-back n d k ρ h (meta z ts) room below = all_numbers-back n d k ρ h ts (omega arith) below
  numbers-back n d k ρ h (lam a t) room below = numbers-back n (suc d) k ρ h t (omega arith) below
  numbers-back n d k ρ h (app t u) room below = (numbers-back n d k ρ h t (omega arith) below.0, numbers-back n d k ρ h u (omega arith) below.1)

  all_numbers-back : (n d k : ℕ) (ρ : ℕ → ℕ) → ((i : ℕ) → (i < k) ⊎ (i ≤ ρ i)) → (bs : Tms) → d + k + nestings bs ≤ n
      → AllBoundNumbersBelow n (renames (up_by d ρ) bs) → AllBoundNumbersBelow n bs
  all_numbers-back n d k ρ h none room below = tt
  all_numbers-back n d k ρ h (more t ts) room below = (numbers-back n d k ρ h t (omega arith) below.0, all_numbers-back n d k ρ h ts (omega arith) below.1)

placed-range : (n k : ℕ) (ts : Tms) (b t : Tm) → AllBoundBelow k ts → Distinct ts → placed ts k 0 b ≡ t → k + nesting t < n → BoundNumbersBelow n t
    → (nesting b < n) × BoundNumbersBelow n b
unfolding up_by
placed-range n k ts b t all distinct same room below =
    let renamed : rename (seat k ts) b ≡ t = sym (placed-rename k 0 ts b all) ∙ same in
    let nested : nesting b ≡ nesting t = sym (nesting-rename (seat k ts) b) ∙ ap nesting renamed in
    (omega arith, numbers-back n 0 k (seat k ts) (seat_grows k ts (count_below k ts all distinct)) b (omega arith) (subst (BoundNumbersBelow n) (sym renamed) below))

-- a body that is found in a term in range is in range
pub placed_in_range : (k : ℕ) (ts : Tms) (b t : Tm) → AllBoundBelow k ts → Distinct ts → placed ts k 0 b ≡ t → k + nesting t < 2 ^ 30
    → BoundNumbersBelow (2 ^ 30) t → Manageable b
placed_in_range k ts b t all distinct same room below =
    let range = placed-range (2 ^ 30) k ts b t all distinct same room below in record { nested = range.0; numbered = range.1 }
