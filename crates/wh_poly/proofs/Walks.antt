-- One step of a walk over the items of a polynomial, of its factors or of its arguments, and a walk over two of them.
use Rattle.std.proofs.Common.{◌≡◌, ℕ, zero, suc, ◌+◌, ◌-◌, ◌<◌, ◌≤◌, List, [], ◌∷◌, length, length-drop, take, drop, get_or, refl, ap, ap₂, sym, ◌∙◌, arith, true, false, Ordering, Less, Equal, Greater, nat_cmp}
use Rattle.std.specs.Ordering.{ordering_then, is_ne}
use Rattle.std.proofs.Math.Seq.{drop-cons, take-length}
use Rattle.std.proofs.Math.ListN.{drop_of_length-le}
use Rattle.wh_poly.specs.Polynomials.{zero_poly, plus, no_factors, times, no_arguments, argument, compare_polynomials, compare_factors, compare_factor, compare_arguments}
use Rattle.wh_poly.specs.declared.polynomial.Poly.{Poly}
use Rattle.wh_poly.specs.declared.polynomial.Monomial.{Monomial, out-Monomial}
use Rattle.wh_poly.specs.declared.polynomial.Atom.{Atom, out-Atom}
use Rattle.wh_poly.specs.Erase.{poly, atoms, polys, sum_of, product_of, arguments_of}

pub drop_next : {A : Type 0} (xs : List A) (i : ℕ) (x : A) → i < length xs → x ≡ get_or xs i x → drop i xs ≡ x ∷ drop (i + 1) xs
drop_next xs i x h e = drop-cons xs i x h ∙ ap₂ (λ y ys. y ∷ ys) (sym e) (let z : suc i ≡ i + 1 = omega arith in ap (λ k. drop k xs) z)

-- the item at i, and what is behind it
pub sum_drop : (xs : List Monomial) (i : ℕ) (m : Monomial) → i < length xs → m ≡ get_or xs i m
    → sum_of (drop i xs) ≡ plus (out-Monomial m).coefficient (atoms (out-Monomial m).atoms) (sum_of (drop (i + 1) xs))
sum_drop xs i m h e = ap sum_of (drop_next xs i m h e)

pub product_drop : (xs : List Atom) (i : ℕ) (u : Atom) → i < length xs → u ≡ get_or xs i u
    → product_of (drop i xs) ≡ times (out-Atom u).head (polys (out-Atom u).args) (product_of (drop (i + 1) xs))
product_drop xs i u h e = ap product_of (drop_next xs i u h e)

pub arguments_drop : (xs : List Poly) (i : ℕ) (p : Poly) → i < length xs → p ≡ get_or xs i p
    → arguments_of (drop i xs) ≡ argument (poly p) (arguments_of (drop (i + 1) xs))
arguments_drop xs i p h e = ap arguments_of (drop_next xs i p h e)

-- past the end nothing is left
pub sum_ended : (xs : List Monomial) (i : ℕ) → length xs ≤ i → sum_of (drop i xs) ≡ zero_poly
sum_ended xs i h = ap sum_of (drop_of_length-le xs h)

pub product_ended : (xs : List Atom) (i : ℕ) → length xs ≤ i → product_of (drop i xs) ≡ no_factors
product_ended xs i h = ap product_of (drop_of_length-le xs h)

pub arguments_ended : (xs : List Poly) (i : ℕ) → length xs ≤ i → arguments_of (drop i xs) ≡ no_arguments
arguments_ended xs i h = ap arguments_of (drop_of_length-le xs h)

-- the first difference decides
pub decided : (o u v : Ordering) → o ≡ u → is_ne o ≡ true → ordering_then u v ≡ o
decided Less u v e n = ap (λ w. ordering_then w v) (sym e)
decided Equal u v e n = grind arith
decided Greater u v e n = ap (λ w. ordering_then w v) (sym e)

pub undecided : (o u v : Ordering) → o ≡ u → is_ne o ≡ false → ordering_then u v ≡ v
undecided Less u v e n = grind arith
undecided Equal u v e n = ap (λ w. ordering_then w v) (sym e)
undecided Greater u v e n = grind arith

then_assoc : (o u v : Ordering) → ordering_then o (ordering_then u v) ≡ ordering_then (ordering_then o u) v
then_assoc Less u v = refl
then_assoc Equal u v = refl
then_assoc Greater u v = refl

-- what two walks with one index have before them
pub sums_at : (xs ys : List Monomial) (i : ℕ) (x y : Monomial) → i < length xs → i < length ys → x ≡ get_or xs i x → y ≡ get_or ys i y
    → compare_polynomials (sum_of (drop i xs)) (sum_of (drop i ys))
    ≡ ordering_then (ordering_then (compare_factors (atoms (out-Monomial x).atoms) (atoms (out-Monomial y).atoms)) (nat_cmp (out-Monomial x).coefficient (out-Monomial y).coefficient))
    (compare_polynomials (sum_of (drop (i + 1) xs)) (sum_of (drop (i + 1) ys)))
sums_at xs ys i x y h k ex ey = ap₂ compare_polynomials (sum_drop xs i x h ex) (sum_drop ys i y k ey)
    ∙ then_assoc (compare_factors (atoms (out-Monomial x).atoms) (atoms (out-Monomial y).atoms)) (nat_cmp (out-Monomial x).coefficient (out-Monomial y).coefficient)
    (compare_polynomials (sum_of (drop (i + 1) xs)) (sum_of (drop (i + 1) ys)))

pub products_at : (xs ys : List Atom) (i : ℕ) (x y : Atom) → i < length xs → i < length ys → x ≡ get_or xs i x → y ≡ get_or ys i y
    → compare_factors (product_of (drop i xs)) (product_of (drop i ys))
    ≡ ordering_then (compare_factor (out-Atom x).head (polys (out-Atom x).args) (out-Atom y).head (polys (out-Atom y).args))
    (compare_factors (product_of (drop (i + 1) xs)) (product_of (drop (i + 1) ys)))
products_at xs ys i x y h k ex ey = ap₂ compare_factors (product_drop xs i x h ex) (product_drop ys i y k ey)

pub arguments_at : (xs ys : List Poly) (i : ℕ) (x y : Poly) → i < length xs → i < length ys → x ≡ get_or xs i x → y ≡ get_or ys i y
    → compare_arguments (arguments_of (drop i xs)) (arguments_of (drop i ys))
    ≡ ordering_then (compare_polynomials (poly x) (poly y)) (compare_arguments (arguments_of (drop (i + 1) xs)) (arguments_of (drop (i + 1) ys)))
arguments_at xs ys i x y h k ex ey = ap₂ compare_arguments (arguments_drop xs i x h ex) (arguments_drop ys i y k ey)

-- and what they have where one of them ends
pub sums_end_right : (xs ys : List Monomial) (i : ℕ) (x : Monomial) → i < length xs → length ys ≤ i → x ≡ get_or xs i x
    → compare_polynomials (sum_of (drop i xs)) (sum_of (drop i ys)) ≡ Greater
sums_end_right xs ys i x h k e = ap₂ compare_polynomials (sum_drop xs i x h e) (sum_ended ys i k)

pub products_end_right : (xs ys : List Atom) (i : ℕ) (x : Atom) → i < length xs → length ys ≤ i → x ≡ get_or xs i x
    → compare_factors (product_of (drop i xs)) (product_of (drop i ys)) ≡ Greater
products_end_right xs ys i x h k e = ap₂ compare_factors (product_drop xs i x h e) (product_ended ys i k)

pub arguments_end_right : (xs ys : List Poly) (i : ℕ) (x : Poly) → i < length xs → length ys ≤ i → x ≡ get_or xs i x
    → compare_arguments (arguments_of (drop i xs)) (arguments_of (drop i ys)) ≡ Greater
arguments_end_right xs ys i x h k e = ap₂ compare_arguments (arguments_drop xs i x h e) (arguments_ended ys i k)

-- a list that is left over
left_sum : (ys : List Monomial) (i : ℕ) → i < length ys → compare_polynomials zero_poly (sum_of (drop i ys)) ≡ Less
left_sum [] i h = absurd (omega (arith, h))
left_sum (y ∷ ys) zero h = refl
left_sum (y ∷ ys) (suc i) h = left_sum ys i (omega (arith, h))

pub sums_end_left : (xs ys : List Monomial) (i : ℕ) → length xs ≤ i → i < length ys → compare_polynomials (sum_of (drop i xs)) (sum_of (drop i ys)) ≡ Less
sums_end_left xs ys i h k = ap (λ p. compare_polynomials p (sum_of (drop i ys))) (sum_ended xs i h) ∙ left_sum ys i k

pub sums_end : (xs ys : List Monomial) (i : ℕ) → length xs ≤ i → length ys ≤ i → compare_polynomials (sum_of (drop i xs)) (sum_of (drop i ys)) ≡ Equal
sums_end xs ys i h k = ap₂ compare_polynomials (sum_ended xs i h) (sum_ended ys i k)

left_product : (ys : List Atom) (i : ℕ) → i < length ys → compare_factors no_factors (product_of (drop i ys)) ≡ Less
left_product [] i h = absurd (omega (arith, h))
left_product (y ∷ ys) zero h = refl
left_product (y ∷ ys) (suc i) h = left_product ys i (omega (arith, h))

pub products_end_left : (xs ys : List Atom) (i : ℕ) → length xs ≤ i → i < length ys → compare_factors (product_of (drop i xs)) (product_of (drop i ys)) ≡ Less
products_end_left xs ys i h k = ap (λ us. compare_factors us (product_of (drop i ys))) (product_ended xs i h) ∙ left_product ys i k

pub products_end : (xs ys : List Atom) (i : ℕ) → length xs ≤ i → length ys ≤ i → compare_factors (product_of (drop i xs)) (product_of (drop i ys)) ≡ Equal
products_end xs ys i h k = ap₂ compare_factors (product_ended xs i h) (product_ended ys i k)

left_arguments : (ys : List Poly) (i : ℕ) → i < length ys → compare_arguments no_arguments (arguments_of (drop i ys)) ≡ Less
left_arguments [] i h = absurd (omega (arith, h))
left_arguments (y ∷ ys) zero h = refl
left_arguments (y ∷ ys) (suc i) h = left_arguments ys i (omega (arith, h))

pub arguments_end_left : (xs ys : List Poly) (i : ℕ) → length xs ≤ i → i < length ys → compare_arguments (arguments_of (drop i xs)) (arguments_of (drop i ys)) ≡ Less
arguments_end_left xs ys i h k = ap (λ ps. compare_arguments ps (arguments_of (drop i ys))) (arguments_ended xs i h) ∙ left_arguments ys i k

pub arguments_end : (xs ys : List Poly) (i : ℕ) → length xs ≤ i → length ys ≤ i → compare_arguments (arguments_of (drop i xs)) (arguments_of (drop i ys)) ≡ Equal
arguments_end xs ys i h k = ap₂ compare_arguments (arguments_ended xs i h) (arguments_ended ys i k)

-- the items from k on, as a part of the list
pub all_behind : {A : Type 0} (xs : List A) (k : ℕ) → drop k xs ≡ take (length xs - k) (drop k xs)
all_behind xs k = sym (ap (λ n. take n (drop k xs)) (sym (length-drop k xs)) ∙ take-length (drop k xs))
