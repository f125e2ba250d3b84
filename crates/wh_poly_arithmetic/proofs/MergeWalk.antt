-- A merge of two sorted polynomials: each step gives the first monomial of the sum.
use Rattle.std.proofs.Common.{◌≡◌, ℕ, zero, suc, ◌+◌, ◌<◌, ◌≤◌, inl, inr, List, [], ◌∷◌, ◌++◌, refl, ap, ap₂, sym, subst, ◌∙◌, arith, length, drop, get_or, Less, Equal, Greater}
use Rattle.std.specs.Prelude.{Option, Some, None}
use mathlib.Core.Path.{subst₂}
use Rattle.wh_poly.specs.Polynomials.{Polynomial, zero_poly, plus, Factors, MonomialBefore, compare_factors, Ordered, Sorted}
use Rattle.wh_poly.specs.Arithmetic.{add_monomial, sum_poly, followed_by}
use Rattle.wh_poly.specs.Limits.{weight, nesting, Overflows}
use Rattle.wh_poly.specs.Excesses.{ExceedsAs}
use Rattle.wh_poly.specs.declared.excess.Excess.{Excess}
use Rattle.wh_poly.specs.declared.excess.Excess.TheVariants as excess
use Rattle.wh_poly.specs.declared.polynomial.Monomial.{Monomial, out-Monomial}
use Rattle.wh_poly.specs.declared.polynomial.Poly.{Poly}
use Rattle.wh_poly.specs.Erase.{poly, atoms, monomials, sum_of}
use Rattle.wh_poly.specs.Merges.{FirstOfSum, AddsFirst, FirstOverflows, EndsBefore}
use Rattle.wh_poly.proofs.Lists.{poly_is}
use Rattle.wh_poly.proofs.Pushes.{sum_of_append}
use Rattle.wh_poly.proofs.OrderedLaws.{ordered_sorted, ordered_commute}
use Rattle.wh_poly.proofs.SumLaws.{sum_less, sum_equal, sum_greater, add_front, before_sum}

pub followed_assoc : (p q r : Polynomial) → followed_by (followed_by p q) r ≡ followed_by p (followed_by q r)
followed_assoc zero_poly q r = refl
followed_assoc (plus c us p) q r = ap (plus c us) (followed_assoc p q r)

pub followed_zero : (p : Polynomial) → followed_by p zero_poly ≡ p
followed_zero zero_poly = refl
followed_zero (plus c us p) = ap (plus c us) (followed_zero p)

-- the lists of factors of the first monomials
abbrev factors_of : Monomial → Factors
factors_of m = atoms (out-Monomial m).atoms

abbrev in_front_of : Monomial → Polynomial → Polynomial
in_front_of m q = plus (out-Monomial m).coefficient (factors_of m) q

-- the first monomial of the first list stands before the second list
abbrev GoesFirst : List Monomial → List Monomial → Type 0
GoesFirst [] ys = ⊥
GoesFirst (x ∷ xs) [] = Unit {0}
GoesFirst (x ∷ xs) (y ∷ ys) = compare_factors (factors_of x) (factors_of y) ≡ Less

-- and that of the second list before the first list
abbrev GoesSecond : List Monomial → List Monomial → Type 0
GoesSecond xs [] = ⊥
GoesSecond [] (y ∷ ys) = Unit {0}
GoesSecond (x ∷ xs) (y ∷ ys) = compare_factors (factors_of x) (factors_of y) ≡ Greater

pub goes_first_alone : (xs ys : List Monomial) → 0 < length xs → length ys ≤ 0 → GoesFirst xs ys
goes_first_alone [] ys h k = absurd (omega (arith, h))
goes_first_alone (x ∷ xs) [] h k = tt
goes_first_alone (x ∷ xs) (y ∷ ys) h k = absurd (omega (arith, k))

pub goes_first : (xs ys : List Monomial) (x y : Monomial) → 0 < length xs → 0 < length ys → x ≡ get_or xs 0 x → y ≡ get_or ys 0 y
    → compare_factors (factors_of x) (factors_of y) ≡ Less → GoesFirst xs ys
goes_first [] ys x y h k e f o = absurd (omega (arith, h))
goes_first (a ∷ xs) [] x y h k e f o = tt
goes_first (a ∷ xs) (b ∷ ys) x y h k e f o = subst₂ (λ x y. compare_factors (factors_of x) (factors_of y) ≡ Less) e f o

pub goes_second : (xs ys : List Monomial) (x y : Monomial) → 0 < length xs → 0 < length ys → x ≡ get_or xs 0 x → y ≡ get_or ys 0 y
    → compare_factors (factors_of x) (factors_of y) ≡ Greater → GoesSecond xs ys
goes_second xs [] x y h k e f o = absurd (omega (arith, k))
goes_second [] (b ∷ ys) x y h k e f o = tt
goes_second (a ∷ xs) (b ∷ ys) x y h k e f o = subst₂ (λ x y. compare_factors (factors_of x) (factors_of y) ≡ Greater) e f o

-- the step where the first list has the next monomial
pub next_is_first : (xs ys left : List Monomial) (r : Option Monomial) (x : Monomial) → GoesFirst xs ys → Sorted (sum_of xs) → r ≡ Some (get_or xs 0 x) → left ≡ drop 1 xs
    → FirstOfSum xs ys left ys r
next_is_first [] ys left r x g s e f = absurd g
next_is_first (a ∷ xs) [] left r x g s e f = subst₂ (λ left r. FirstOfSum (a ∷ xs) [] left [] r) (sym f) (sym e)
    (add_front (out-Monomial a).coefficient (factors_of a) (sum_poly (sum_of xs) zero_poly) (before_sum (factors_of a) (sum_of xs) zero_poly s.0 s.1 tt), s.1, omega arith)
next_is_first (a ∷ xs) (b ∷ ys) left r x g s e f = subst₂ (λ left r. FirstOfSum (a ∷ xs) (b ∷ ys) left (b ∷ ys) r) (sym f) (sym e)
    (sum_less (out-Monomial a).coefficient (out-Monomial b).coefficient (factors_of a) (factors_of b) (sum_of xs) (sum_of ys) g s.0 s.1, s.1, omega arith)

-- and where the second one has it
pub next_is_second : (xs ys right : List Monomial) (r : Option Monomial) (y : Monomial) → GoesSecond xs ys → Sorted (sum_of xs) → r ≡ Some (get_or ys 0 y) → right ≡ drop 1 ys
    → FirstOfSum xs ys xs right r
next_is_second xs [] right r y g s e f = absurd g
next_is_second [] (b ∷ ys) right r y g s e f = subst₂ (λ right r. FirstOfSum [] (b ∷ ys) [] right r) (sym f) (sym e) (refl, tt, omega arith)
next_is_second (a ∷ xs) (b ∷ ys) right r y g s e f = subst₂ (λ right r. FirstOfSum (a ∷ xs) (b ∷ ys) (a ∷ xs) right r) (sym f) (sym e)
    (sum_greater (out-Monomial a).coefficient (out-Monomial b).coefficient (factors_of a) (factors_of b) (sum_of xs) (sum_of ys) g s.0 s.1, s, omega arith)

-- where both begin with the same factors
pub next_is_both : (xs ys left right : List Monomial) (x y m : Monomial) → x ≡ get_or xs 0 x → y ≡ get_or ys 0 y → compare_factors (factors_of x) (factors_of y) ≡ Equal → Sorted (sum_of xs)
    → AddsFirst xs ys left right m → FirstOfSum xs ys left right (Some m)
next_is_both xs ys left right x y m ex ey o s (a, b, ea, eb, ec, ef) =
    let i : x ≡ a = ex ∙ ap (λ xs. get_or xs 0 x) ea in
    let j : y ≡ b = ey ∙ ap (λ ys. get_or ys 0 y) eb in
    let k : compare_factors (factors_of a) (factors_of b) ≡ Equal = subst₂ (λ x y. compare_factors (factors_of x) (factors_of y) ≡ Equal) i j o in
    let t : Sorted (sum_of (a ∷ left)) = subst (λ xs. Sorted (sum_of xs)) ea s in
    subst₂ (λ xs ys. FirstOfSum xs ys left right (Some m)) (sym ea) (sym eb) (
      sum_equal (out-Monomial a).coefficient (out-Monomial b).coefficient (factors_of a) (factors_of b) (sum_of left) (sum_of right) k t.0 t.1
          ∙ ap₂ (λ c us. plus c us (sum_poly (sum_of left) (sum_of right))) (sym ec) (sym ef),
      t.1,
      omega arith,
    )

pub both_overflow : (xs ys : List Monomial) (x y : Monomial) → x ≡ get_or xs 0 x → y ≡ get_or ys 0 y → compare_factors (factors_of x) (factors_of y) ≡ Equal → Sorted (sum_of xs)
    → FirstOverflows xs ys → Overflows (sum_poly (sum_of xs) (sum_of ys))
both_overflow xs ys x y ex ey o s (a, b, left, right, ea, eb, l) =
    let i : x ≡ a = ex ∙ ap (λ xs. get_or xs 0 x) ea in
    let j : y ≡ b = ey ∙ ap (λ ys. get_or ys 0 y) eb in
    let k : compare_factors (factors_of a) (factors_of b) ≡ Equal = subst₂ (λ x y. compare_factors (factors_of x) (factors_of y) ≡ Equal) i j o in
    let t : Sorted (sum_of (a ∷ left)) = subst (λ xs. Sorted (sum_of xs)) ea s in
    subst₂ (λ xs ys. Overflows (sum_poly (sum_of xs) (sum_of ys))) (sym ea) (sym eb)
    (subst Overflows (sym (sum_equal (out-Monomial a).coefficient (out-Monomial b).coefficient (factors_of a) (factors_of b) (sum_of left) (sum_of right) k t.0 t.1)) (inl l))

-- what is out, and the sum of what is left, is the sum
pub record Merging (total : Polynomial) (out left right : List Monomial) : Type 0 where
  pub same : total ≡ followed_by (sum_of out) (sum_poly (sum_of left) (sum_of right))
  pub sorted : Sorted (sum_of left)

pub merging_starts : (a b : Poly) (out xs ys : List Monomial) → out ≡ [] → xs ≡ monomials a → ys ≡ monomials b → Sorted (poly a) → Merging (sum_poly (poly a) (poly b)) out xs ys
merging_starts a b out xs ys e ex ey s =
    let i : poly a ≡ sum_of xs = poly_is a ∙ ap sum_of (sym ex) in
    let j : poly b ≡ sum_of ys = poly_is b ∙ ap sum_of (sym ey) in
    record { same = ap₂ sum_poly i j ∙ ap (λ out. followed_by (sum_of out) (sum_poly (sum_of xs) (sum_of ys))) (sym e); sorted = subst Sorted i s }

pub merging_steps : (total : Polynomial) (out new xs ys left right : List Monomial) (m : Monomial) → Merging total out xs ys → FirstOfSum xs ys left right (Some m) → new ≡ out ++ m ∷ []
    → Merging total new left right
merging_steps total out new xs ys left right m g (e, s, l) k = record {
  sorted = s;
  same = g.same ∙ ap (followed_by (sum_of out)) e ∙ sym (followed_assoc (sum_of out) (in_front_of m zero_poly) (sum_poly (sum_of left) (sum_of right)))
      ∙ ap (λ p. followed_by p (sum_poly (sum_of left) (sum_of right))) (sym (ap sum_of k ∙ sum_of_append out (m ∷ [])));
}

pub merging_ends : (total : Polynomial) (out : Poly) (xs ys left right : List Monomial) → Merging total (monomials out) xs ys → FirstOfSum xs ys left right None → poly out ≡ total
merging_ends total out xs ys left right g e = poly_is out ∙ sym (g.same ∙ ap (followed_by (sum_of (monomials out))) e ∙ followed_zero (sum_of (monomials out)))

-- what exceeds behind other monomials does so with them
overflows_behind : (p q : Polynomial) → Overflows q → Overflows (followed_by p q)
overflows_behind zero_poly q h = h
overflows_behind (plus c us p) q h = inr (overflows_behind p q h)

heavy_behind : (p q : Polynomial) → weight q ≤ weight (followed_by p q)
heavy_behind zero_poly q = omega arith
heavy_behind (plus c us p) q = let h = heavy_behind p q in omega (arith, h)

deep_behind : (p q : Polynomial) → nesting q ≤ nesting (followed_by p q)
deep_behind zero_poly q = omega arith
deep_behind (plus c us p) q = let h = deep_behind p q in omega (arith, h)

exceeds_behind : (e : Excess) (p q : Polynomial) → ExceedsAs e q → ExceedsAs e (followed_by p q)
exceeds_behind excess.Overflow p q h = overflows_behind p q h
exceeds_behind excess.TooLarge p q (inl h) = inl (let k = heavy_behind p q in omega (arith, h, k))
exceeds_behind excess.TooLarge p q (inr h) = inr (let k = deep_behind p q in omega (arith, h, k))

pub merging_exceeds : (e : Excess) (total : Polynomial) (out xs ys : List Monomial) → Merging total out xs ys → ExceedsAs e (sum_poly (sum_of xs) (sum_of ys)) → ExceedsAs e total
merging_exceeds e total out xs ys g h = subst (ExceedsAs e) (sym g.same) (exceeds_behind e (sum_of out) (sum_poly (sum_of xs) (sum_of ys)) h)

-- values of which one is wholly before the other
pub sum_follows : (p q : Polynomial) → Sorted p → EndsBefore p q → sum_poly p q ≡ followed_by p q
sum_follows zero_poly q s b = refl
sum_follows (plus c us zero_poly) q s b = add_front c us q b
sum_follows (plus c us (plus d vs p)) q s b = ap (add_monomial c us) (sum_follows (plus d vs p) q s.1 b) ∙ add_front c us (plus d vs (followed_by p q)) s.0

pub sum_precedes : (p q : Polynomial) → Ordered p → Ordered q → EndsBefore q p → sum_poly p q ≡ followed_by q p
sum_precedes p q n m b = ordered_commute p q n m ∙ sum_follows q p (ordered_sorted q m) b

pub none_ends_before : (p : Poly) (xs : List Monomial) (q : Polynomial) → xs ≡ monomials p → length xs ≤ 0 → EndsBefore (poly p) q
none_ends_before p [] q e l = subst (λ p. EndsBefore p q) (sym (poly_is p ∙ ap sum_of (sym e))) tt
none_ends_before p (x ∷ xs) q e l = absurd (omega (arith, l))

last_before : (xs : List Monomial) (i : ℕ) (m : Monomial) (q : Polynomial) → i + 1 ≡ length xs → m ≡ get_or xs i m → MonomialBefore (factors_of m) q → EndsBefore (sum_of xs) q
last_before [] i m q l e b = absurd (omega (arith, l))
last_before (x ∷ []) zero m q l e b = subst (λ m. MonomialBefore (factors_of m) q) e b
last_before (x ∷ []) (suc i) m q l e b = absurd (omega (arith, l))
last_before (x ∷ y ∷ xs) zero m q l e b = absurd (omega (arith, l))
last_before (x ∷ y ∷ xs) (suc i) m q l e b = last_before (y ∷ xs) i m q (omega (arith, l)) e b

pub ends_before : (p : Poly) (xs : List Monomial) (i : ℕ) (m : Monomial) (q : Polynomial) → xs ≡ monomials p → i + 1 ≡ length xs → m ≡ get_or xs i m → MonomialBefore (factors_of m) q → EndsBefore (poly p) q
ends_before p xs i m q e l k b = subst (λ p. EndsBefore p q) (sym (poly_is p ∙ ap sum_of (sym e))) (last_before xs i m q l k b)

pub appended_is : (p q r : Poly) → monomials r ≡ monomials p ++ monomials q → poly r ≡ followed_by (poly p) (poly q)
appended_is p q r e = poly_is r ∙ ap sum_of e ∙ sum_of_append (monomials p) (monomials q) ∙ sym (ap₂ followed_by (poly_is p) (poly_is q))
