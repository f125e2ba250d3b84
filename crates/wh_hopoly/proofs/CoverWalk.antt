-- A walk over two sorted polynomials, which asks whether the first is at least the second.
use Rattle.std.proofs.Common.{IsTrue, Bool, true, false, ◌==◌, ◌≡◌, ◌↔◌, ℕ, zero, suc, ◌+◌, ◌≤◌, ◌<◌, List, [], ◌∷◌, refl, ap, sym, subst, ◌∙◌, arith, length, drop, get_or, Less, Equal, Greater}
use Rattle.wh_poly.specs.Polynomials.{Polynomial, zero_poly, plus, Sorted, compare_factors}
use Rattle.wh_hopoly.specs.Covers.{AtLeast}
use Rattle.wh_poly.specs.declared.polynomial.Monomial.{Monomial, out-Monomial}
use mathlib.Core.Path.{subst₂}
use Rattle.wh_poly.specs.declared.polynomial.Poly.{Poly}
use Rattle.wh_poly.specs.Erase.{poly, atoms, monomials, sum_of}
use Rattle.wh_poly.proofs.Lists.{poly_is}
use Rattle.wh_hopoly.proofs.CoverLaws.{at_least_less, at_least_equal, not_at_least_equal, not_at_least_greater}
use Rattle.wh_poly.proofs.Walks.{sum_drop, sum_ended}

-- what is left of both lists decides
pub record Left (xs ys : List Monomial) (i j : ℕ) : Type 0 where
  pub within : j ≤ length ys
  pub first : Sorted (sum_of (drop i xs))
  pub second : Sorted (sum_of (drop j ys))
  pub same : AtLeast (sum_of xs) (sum_of ys) ↔ AtLeast (sum_of (drop i xs)) (sum_of (drop j ys))

abbrev behind : List Monomial → ℕ → Monomial → Polynomial
behind xs i x = plus (out-Monomial x).coefficient (atoms (out-Monomial x).atoms) (sum_of (drop (i + 1) xs))

-- the walk with the monomials that it has before it
record At (xs ys : List Monomial) (i j : ℕ) (x y : Monomial) : Type 0 where
  pub first : Sorted (behind xs i x)
  pub second : Sorted (behind ys j y)
  pub same : AtLeast (sum_of xs) (sum_of ys) ↔ AtLeast (behind xs i x) (behind ys j y)

at : (xs ys : List Monomial) (i j : ℕ) (x y : Monomial) → Left xs ys i j → i < length xs → j < length ys → x ≡ get_or xs i x → y ≡ get_or ys j y → At xs ys i j x y
at xs ys i j x y l h k ex ey = let a = sum_drop xs i x h ex in let b = sum_drop ys j y k ey in record {
  first = subst Sorted a l.first;
  second = subst Sorted b l.second;
  same = subst (λ p. AtLeast (sum_of xs) (sum_of ys) ↔ AtLeast p (behind ys j y)) a
      (subst (λ q. AtLeast (sum_of xs) (sum_of ys) ↔ AtLeast (sum_of (drop i xs)) q) b l.same);
}

both_ways : {A B C : Type 0} → A ↔ B → B ↔ C → A ↔ C
both_ways f g = (λ a. g.0 (f.0 a), λ c. f.1 (g.1 c))

pub left_at_start : (xs ys : List Monomial) → Sorted (sum_of xs) → Sorted (sum_of ys) → Left xs ys 0 0
left_at_start xs ys s t = record { within = omega arith; first = s; second = t; same = (λ h. h, λ h. h) }

pub left_after_less : (xs ys : List Monomial) (i j : ℕ) (x y : Monomial) → Left xs ys i j → i < length xs → j < length ys → x ≡ get_or xs i x → y ≡ get_or ys j y
    → compare_factors (atoms (out-Monomial x).atoms) (atoms (out-Monomial y).atoms) ≡ Less → Left xs ys (i + 1) j
left_after_less xs ys i j x y l h k ex ey o = let a = at xs ys i j x y l h k ex ey in record {
  within = l.within;
  first = a.first.1;
  second = l.second;
  same = subst (λ q. AtLeast (sum_of xs) (sum_of ys) ↔ AtLeast (sum_of (drop (i + 1) xs)) q) (sym (sum_drop ys j y k ey))
      (both_ways a.same (at_least_less (out-Monomial x).coefficient (out-Monomial y).coefficient _ _ (sum_of (drop (i + 1) xs)) (sum_of (drop (j + 1) ys)) o a.second));
}

pub left_after_equal : (xs ys : List Monomial) (i j : ℕ) (x y : Monomial) → Left xs ys i j → i < length xs → j < length ys → x ≡ get_or xs i x → y ≡ get_or ys j y
    → compare_factors (atoms (out-Monomial x).atoms) (atoms (out-Monomial y).atoms) ≡ Equal → (out-Monomial y).coefficient ≤ (out-Monomial x).coefficient → Left xs ys (i + 1) (j + 1)
left_after_equal xs ys i j x y l h k ex ey o d = let a = at xs ys i j x y l h k ex ey in record {
  within = omega (arith, k);
  first = a.first.1;
  second = a.second.1;
  same = both_ways a.same (at_least_equal (out-Monomial x).coefficient (out-Monomial y).coefficient _ _ (sum_of (drop (i + 1) xs)) (sum_of (drop (j + 1) ys)) o d a.second);
}

-- the ends of the walk
pub refused_equal : (xs ys : List Monomial) (i j : ℕ) (x y : Monomial) → Left xs ys i j → i < length xs → j < length ys → x ≡ get_or xs i x → y ≡ get_or ys j y
    → compare_factors (atoms (out-Monomial x).atoms) (atoms (out-Monomial y).atoms) ≡ Equal → (out-Monomial x).coefficient < (out-Monomial y).coefficient
    → AtLeast (sum_of xs) (sum_of ys) → ⊥
refused_equal xs ys i j x y l h k ex ey o d w = let a = at xs ys i j x y l h k ex ey in
    not_at_least_equal (out-Monomial x).coefficient (out-Monomial y).coefficient _ _ (sum_of (drop (i + 1) xs)) (sum_of (drop (j + 1) ys)) o d a.first (a.same.0 w)

pub refused_greater : (xs ys : List Monomial) (i j : ℕ) (x y : Monomial) → Left xs ys i j → i < length xs → j < length ys → x ≡ get_or xs i x → y ≡ get_or ys j y
    → compare_factors (atoms (out-Monomial x).atoms) (atoms (out-Monomial y).atoms) ≡ Greater → AtLeast (sum_of xs) (sum_of ys) → ⊥
refused_greater xs ys i j x y l h k ex ey o w = let a = at xs ys i j x y l h k ex ey in
    not_at_least_greater (out-Monomial x).coefficient (out-Monomial y).coefficient _ _ (sum_of (drop (i + 1) xs)) (sum_of (drop (j + 1) ys)) o a.first (a.same.0 w)

pub all_found : (xs ys : List Monomial) (i j : ℕ) → Left xs ys i j → length ys ≤ j → AtLeast (sum_of xs) (sum_of ys)
all_found xs ys i j l h = l.same.1 (subst (AtLeast (sum_of (drop i xs))) (sym (sum_ended ys j h)) tt)

nothing_has : (ys : List Monomial) (j : ℕ) → j < length ys → AtLeast zero_poly (sum_of (drop j ys)) → ⊥
nothing_has [] j h w = omega (arith, h)
nothing_has (y ∷ ys) zero h w = w.0
nothing_has (y ∷ ys) (suc j) h w = nothing_has ys j (omega (arith, h)) w

pub not_found : (xs ys : List Monomial) (i j : ℕ) → Left xs ys i j → length xs ≤ i → j < length ys → AtLeast (sum_of xs) (sum_of ys) → ⊥
not_found xs ys i j l h k w = nothing_has ys j k (subst (λ p. AtLeast p (sum_of (drop j ys))) (sum_ended xs i h) (l.same.0 w))

-- one polynomial is at least another where the list of its monomials is at least the other's
pub at_least_by_lists : (p q : Poly) (xs ys : List Monomial) → xs ≡ monomials p → ys ≡ monomials q → AtLeast (sum_of xs) (sum_of ys) ↔ AtLeast (poly p) (poly q)
at_least_by_lists p q xs ys e k = let a : poly p ≡ sum_of xs = poly_is p ∙ ap sum_of (sym e) in let b : poly q ≡ sum_of ys = poly_is q ∙ ap sum_of (sym k) in
    (subst₂ AtLeast (sym a) (sym b), subst₂ AtLeast a b)

pub sorted_by_list : (p : Poly) (xs : List Monomial) → xs ≡ monomials p → Sorted (poly p) → Sorted (sum_of xs)
sorted_by_list p xs e s = subst Sorted (poly_is p ∙ ap sum_of (sym e)) s

-- where the first list ends, the second one has to have ended
pub walk_ends : (xs ys : List Monomial) (i j : ℕ) → Left xs ys i j → length xs ≤ i → IsTrue (j == length ys) ↔ AtLeast (sum_of xs) (sum_of ys)
walk_ends xs ys i j l h = go (j == length ys) refl
  where
    go : (b : Bool) → (j == length ys) ≡ b → IsTrue b ↔ AtLeast (sum_of xs) (sum_of ys)
    go true e = (λ yes. all_found xs ys i j l (grind (arith, e)), λ w. refl)
    go false e = (λ no. cc, λ w. absurd (not_found xs ys i j l h (let k = l.within in grind (arith, e, k)) w))
