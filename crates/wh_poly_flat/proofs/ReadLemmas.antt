-- Polynomials of the space over arguments of sorts are linear, and come to their coefficients.
use Rattle.std.proofs.Common.{◌≡◌, ℕ, zero, suc, ◌+◌, ◌*◌, ◌<◌, ◌≤◌, ◌==◌, nat_lt, if◌then◌else◌, Bool, true, false, List, [], ◌∷◌, length, Contains, get_or, Some, slice_get, refl, ap, ap₂, ◌∙◌, sym, subst, arith}
use Rattle.wh_types.specs.Ty.{Ty, sort, ◌⇒◌, arguments}
use Rattle.wh_poly.specs.Polynomials.{Polynomial, zero_poly, plus, Factors, no_factors, times, no_arguments, argument, Sorted, MonomialBefore}
use Rattle.wh_hopoly.specs.Evaluation.{type_at, Interpretation, interpretation_at}
use Rattle.wh_hopoly.specs.Moves.{MonomialAt}
use Rattle.wh_poly.specs.Rearranged.{only_if_equal, coefficient as factor_coefficient, Positive}
use Rattle.wh_poly.proofs.SumLaws.{before_then, normal_sorted}
use Rattle.wh_hopoly.proofs.ValueLaws.{interpretation_is}
use Rattle.wh_pairs.proofs.ByPlace.{place_of}
use Rattle.wh_poly_space.specs.Space.{is_sort, sort_variables, sum_of_variables, filled, space_of, alone, HasMonomial, IsOfSpace}
use Rattle.wh_poly_space.specs.Coefficients.{HasCoefficients}
use Rattle.wh_poly_space.specs.Spots.{IsSpot, factors_at, sorts_before, functional_before, place}
use Rattle.wh_poly_space.specs.declared.space.Spot.{Spot}
use Rattle.wh_poly_space.specs.declared.space.Spot.TheVariants.{Constant, One, Two}
use Rattle.wh_poly_space.proofs.SpaceLemmas.{spot_there}
use Rattle.wh_poly_space.proofs.SpotLemmas.{spot_at}
use Rattle.wh_poly_guesses.proofs.Uniqueness.{normal_positive, coefficient_is, monomial_of}
use Rattle.wh_usable_first_order.specs.FirstOrder.{AreSorts}
use Rattle.wh_poly_flat.specs.Worth.{coefficient, nothing, only}
use Rattle.wh_poly_flat.proofs.Totals.{IsUnit, IsLinear, total, spread, total_alike, spread_alike}
use Rattle.wh_poly_flat.proofs.Tails.{sum_to, tail}
use Rattle.wh_poly_flat.proofs.Covered.{coefficient_constant, coefficient_variable}
use Rattle.wh_poly_flat.proofs.Valued.{IsLinearSymbol}

-- scopes of sorts

sort_at : (Γ : List Ty) (x : ℕ) → AreSorts Γ → is_sort (type_at Γ x) ≡ true
sort_at [] x a = refl
sort_at (sort s ∷ Γ) zero a = refl
sort_at (sort s ∷ Γ) (suc x) a = sort_at Γ x a
sort_at ((b ⇒ c) ∷ Γ) x a = absurd a

alone_is : (Γ : List Ty) (x : ℕ) → AreSorts Γ → alone Γ x ≡ times x no_arguments no_factors
alone_is Γ x a = go (type_at Γ x) (sort_at Γ x a)
  where
    go : (A : Ty) → is_sort A ≡ true → times x (filled (sum_of_variables
        (sort_variables Γ)) A) no_factors ≡ times x no_arguments no_factors
    go (sort s) e = refl
    go (b ⇒ c) e = absurd (grind (arith, e))

before_is : (Γ : List Ty) (x : ℕ) → AreSorts Γ → x ≤ length Γ → sorts_before Γ x ≡ x
before_is [] x a h = omega (arith, h)
before_is (sort s ∷ Γ) zero a h = refl
before_is (sort s ∷ Γ) (suc x) a h = let e = before_is Γ x a (omega (arith, h)) in omega (arith, e)
before_is ((b ⇒ c) ∷ Γ) x a h = absurd a

place_is : (Γ : List Ty) (x : ℕ) → AreSorts Γ → x < length Γ → place Γ (One x) ≡ suc x
place_is Γ x a h =
    ap (λ b. if b then 1 + sorts_before Γ x else 1 + (length (sort_variables Γ)
    + functional_before Γ x)) (sort_at Γ x a)
    ∙ (let e = before_is Γ x a (omega (arith, h)) in omega (arith, e))

variable_is : (x y : ℕ) → times x no_arguments no_factors ≡ times y no_arguments no_factors → x ≡ y
variable_is x y e = ap number e
  where
    number : Factors → ℕ
    number no_factors = 0
    number (times x ps us) = x

-- each monomial of the space is a unit
module _ (Γ : List Ty) (sorts : AreSorts Γ) where
  spot_unit : (s : Spot) (us : Factors) → IsSpot Γ s → factors_at Γ s ≡ us → IsUnit (length Γ) us
  spot_unit Constant us i e = subst (IsUnit (length Γ)) e tt
  spot_unit (One x) us i e = subst (IsUnit (length Γ)) (sym (alone_is Γ x sorts) ∙ e) i
  spot_unit (Two x y) us i e = absurd (i.2 (sort_at Γ x sorts ∙ sym (sort_at Γ y sorts)))

  space_unit : (us : Factors) → Contains (space_of Γ) us → IsUnit (length Γ) us
  space_unit us c =
      let (j, at) = place_of (space_of Γ) us c in
      let (s, i, f, p) = spot_at Γ j us at in
      spot_unit s us i f

  space_constant : slice_get (space_of Γ) 0 ≡ Some no_factors
  unfolding space_of
  space_constant = refl

  spot_variable : (s : Spot) (x j : ℕ) → IsSpot Γ s → factors_at Γ s ≡ times x no_arguments no_factors → place Γ s ≡ j → j ≡ suc x
  spot_variable Constant x j i e p = absurd (not_constant e)
    where
      not_constant : no_factors ≡ times x no_arguments no_factors → ⊥
      not_constant e = cc
  spot_variable (One y) x j i e p =
      let same = variable_is y x (sym (alone_is Γ y sorts) ∙ e) in let k = place_is Γ y sorts i in omega (arith, same, k, p)
  spot_variable (Two y z) x j i e p = absurd (i.2 (sort_at Γ y sorts ∙ sym (sort_at Γ z sorts)))

  space_variable : (x : ℕ) → x < length Γ → slice_get (space_of Γ) (suc x) ≡ Some (times x no_arguments no_factors)
  space_variable x h =
      let us = times x no_arguments no_factors in
      let (j, at) = place_of (space_of Γ) (alone Γ x) (spot_there Γ (One x) h) in
      let found : slice_get (space_of Γ) j ≡ Some us = at ∙ ap Some (alone_is Γ x sorts) in
      let (s, i, f, p) = spot_at Γ j us found in
      subst (λ j. slice_get (space_of Γ) j ≡ Some us) (spot_variable s x j i f p) found

  module _ (p : Polynomial) (of : IsOfSpace Γ p) where
    linear_from : (q : Polynomial) → ((i c : ℕ) (us : Factors) → MonomialAt q i c us → HasMonomial p c us) → IsLinear (length Γ) q
    linear_from zero_poly f = tt
    linear_from (plus c us q) f =
        (space_unit us (of.monomials c us (f 0 c us (refl, refl))).1, linear_from q (λ i c us at. f (suc i) c us at))

    is_linear : IsLinear (length Γ) p
    is_linear = linear_from p (λ i c us at. (i, at))

-- what stands before all of a polynomial is not in it
absent : (us : Factors) (p : Polynomial) → MonomialBefore us p → Sorted p → factor_coefficient us p ≡ 0
absent us zero_poly b s = refl
absent us (plus d vs p) b s =
    ap (λ o. only_if_equal o d + factor_coefficient us p) b
    ∙ (let e = absent us p (before_then us vs p b s.0) s.1 in omega (arith, e))

-- no unit stands in a polynomial twice

spread_constant : (n : ℕ) (p : Polynomial) → IsLinear n p → Positive p → spread 1 nothing p ≤ total 1 nothing p
spread_constant n zero_poly l h = omega arith
spread_constant n (plus c no_factors p) l h = let e = spread_constant n p l.1 h.1 in let f = h.0 in omega (arith, e, f)
spread_constant n (plus c (times x ps us) p) l h = let e = spread_constant n p l.1 h.1 in omega (arith, e)

at_least_itself : (c k : ℕ) → 1 ≤ c → k ≤ c * k
at_least_itself zero k h = absurd (omega (arith, h))
at_least_itself (suc c) k h = omega arith

spread_variable : (n x : ℕ) (p : Polynomial) → IsLinear n p → Positive p → spread 0 (only x) p ≤ total 0 (only x) p
spread_variable n x zero_poly l h = omega arith
spread_variable n x (plus c no_factors p) l h = let e = spread_variable n x p l.1 h.1 in omega (arith, e)
spread_variable n x (plus c (times y ps us) p) l h =
    let e = spread_variable n x p l.1 h.1 in let f = at_least_itself c (only x y) h.0 in omega (arith, e, f)

one_constant : (n : ℕ) (p : Polynomial) → IsLinear n p → Positive p → Sorted p → spread 1 nothing p ≤ 1
one_constant n zero_poly l h s = omega arith
one_constant n (plus c no_factors p) l h s =
    let a = spread_constant n p l.1 h.1 in let b = coefficient_constant n p l.1 in let e = absent no_factors p s.0 s.1 in omega (arith, a, b, e)
one_constant n (plus c (times x ps us) p) l h s = let e = one_constant n p l.1 h.1 s.1 in omega (arith, e)

one_variable : (n x : ℕ) (p : Polynomial) → IsLinear n p → Positive p → Sorted p → spread 0 (only x) p ≤ 1
one_variable n x zero_poly l h s = omega arith
one_variable n x (plus c no_factors p) l h s = let e = one_variable n x p l.1 h.1 s.1 in omega (arith, e)
one_variable n x (plus c (times y no_arguments no_factors) p) l h s = go (one_variable n x p l.1 h.1 s.1) (y == x) refl
  where
    go : spread 0 (only x) p ≤ 1 → (b : Bool) → (y == x) ≡ b → (if b then 1 else 0) + spread 0 (only x) p ≤ 1
    go r true e =
        let f : y ≡ x = grind (arith, e) in
        let a = spread_variable n x p l.1 h.1 in
        let b = coefficient_variable n x p l.1 in
        let g = absent (times x no_arguments no_factors) p (subst (λ y. MonomialBefore (times y no_arguments no_factors) p) f s.0) s.1 in
        omega (arith, a, b, g)
    go r false e = omega (arith, r)
one_variable n x (plus c (times y no_arguments (times z qs vs)) p) l h s = absurd l.0
one_variable n x (plus c (times y (argument q qs) us) p) l h s = absurd l.0

-- weights, variable by variable

abbrev up_to : ℕ → (ℕ → ℕ) → ℕ → ℕ
up_to k at x = if nat_lt x k then at x else 0

up_to_none : (at : ℕ → ℕ) (x : ℕ) → up_to 0 at x ≡ nothing x
up_to_none at x = let h : nat_lt x 0 ≡ false = grind arith in ap (λ b. if b then at x else 0) h

up_to_more : (k : ℕ) (at : ℕ → ℕ) (x : ℕ) → up_to (suc k) at x ≡ up_to k at x + at k * only k x
up_to_more k at x = go (nat_lt x k) (x == k) refl refl
  where
    go : (a b : Bool) → nat_lt x k ≡ a → (x == k) ≡ b → up_to (suc k) at x ≡ (if a then at x else 0) + at k * (if b then 1 else 0)
    go true true e f = absurd (grind (arith, e, f))
    go true false e f = let h : nat_lt x (suc k) ≡ true = grind (arith, e, f) in
        ap (λ b. if b then at x else 0) h ∙ omega arith
    go false true e f = let h : nat_lt x (suc k) ≡ true = grind (arith, e, f) in
        let i : x ≡ k = grind (arith, f) in let j : at x ≡ at k = ap at i in
        ap (λ b. if b then at x else 0) h ∙ j ∙ omega arith
    go false false e f = let h : nat_lt x (suc k) ≡ false = grind (arith, e, f) in
        ap (λ b. if b then at x else 0) h ∙ omega arith

up_to_all : (k : ℕ) (at : ℕ → ℕ) (x : ℕ) → x < k → at x ≡ up_to k at x
up_to_all k at x h = let e : nat_lt x k ≡ true = grind (arith, h) in sym (ap (λ b. if b then at x else 0) e)

total_added : (n first k : ℕ) (at to w : ℕ → ℕ) (p : Polynomial) → IsLinear n p → ((x : ℕ) → to x ≡ at x + k * w x)
    → total first to p ≡ total first at p + k * total 0 w p
total_added n first k at to w zero_poly l e = omega arith
total_added n first k at to w (plus c no_factors p) l e = let f = total_added n first k at to w p l.1 e in omega (arith, f)
total_added n first k at to w (plus c (times x ps us) p) l e =
    let f = total_added n first k at to w p l.1 e in ap₂ (λ i j. c * i + j) (e x) f ∙ omega arith

spread_added : (n first k : ℕ) (at to w : ℕ → ℕ) (p : Polynomial) → IsLinear n p → ((x : ℕ) → to x ≡ at x + k * w x)
    → spread first to p ≡ spread first at p + k * spread 0 w p
spread_added n first k at to w zero_poly l e = omega arith
spread_added n first k at to w (plus c no_factors p) l e = let f = spread_added n first k at to w p l.1 e in omega (arith, f)
spread_added n first k at to w (plus c (times x ps us) p) l e =
    let f = spread_added n first k at to w p l.1 e in ap₂ (λ i j. i + j) (e x) f ∙ omega arith

total_first : (n first : ℕ) (p : Polynomial) → IsLinear n p → total first nothing p ≡ total 1 nothing p * first
total_first n first zero_poly l = omega arith
total_first n first (plus c no_factors p) l = let f = total_first n first p l.1 in omega (arith, f)
total_first n first (plus c (times x ps us) p) l = let f = total_first n first p l.1 in omega (arith, f)

spread_first : (n first : ℕ) (p : Polynomial) → IsLinear n p → spread first nothing p ≡ spread 1 nothing p * first
spread_first n first zero_poly l = omega arith
spread_first n first (plus c no_factors p) l = let f = spread_first n first p l.1 in omega (arith, f)
spread_first n first (plus c (times x ps us) p) l = let f = spread_first n first p l.1 in omega (arith, f)

tail_more : (lists : List (List ℕ)) (f j k : ℕ) (u : ℕ → ℕ) → tail lists f j (suc k) u ≡ tail lists f j k u + coefficient lists f (suc (j + k)) * u k
tail_more lists f j zero u = let e : j + 0 ≡ j = omega arith in
    ap (λ i. coefficient lists f (suc i) * u 0 + 0) (sym e) ∙ omega arith
tail_more lists f j (suc k) u =
    let a = tail_more lists f (suc j) k (λ i. u (suc i)) in
    let e : suc j + k ≡ j + suc k = omega arith in
    let b : coefficient lists f (suc (suc j + k)) ≡ coefficient lists f (suc (j + suc k)) = ap (λ i. coefficient lists f (suc i)) e in
    ap (λ t. coefficient lists f (suc j) * u 0 + t) (a ∙ ap (λ c. tail lists f (suc j) k (λ i. u (suc i)) + c * u (suc k)) b) ∙ omega arith

sum_more : (k : ℕ) (u : ℕ → ℕ) → sum_to (suc k) u ≡ sum_to k u + u k
sum_more zero u = omega arith
sum_more (suc k) u = let a = sum_more k (λ i. u (suc i)) in ap (λ t. u 0 + t) a ∙ omega arith

module _ (lists : List (List ℕ)) (f : ℕ) (Γ : List Ty) (p : Polynomial) (sorts : AreSorts Γ) (has : HasCoefficients Γ (get_or lists f []) p) where
  p_linear : IsLinear (length Γ) p
  p_linear = is_linear Γ sorts p has.of_space

  -- a coefficient of the space is the one of the list
  coefficient_there : (j : ℕ) (us : Factors) → slice_get (space_of Γ) j ≡ Some us → factor_coefficient us p ≡ coefficient lists f j
  coefficient_there j us at = go (factor_coefficient us p) refl (coefficient lists f j) refl
    where
      go : (a : ℕ) → factor_coefficient us p ≡ a → (b : ℕ) → coefficient lists f j ≡ b → factor_coefficient us p ≡ coefficient lists f j
      go zero e zero g = e ∙ sym g
      go zero e (suc b) g =
          let m = (has.each j (coefficient lists f j) us at).1 (refl, omega (arith, g)) in
          coefficient_is Γ p (coefficient lists f j) us has.of_space.normal m
      go (suc a) e b g =
          let m = monomial_of Γ p us has.of_space.normal (omega (arith, e)) in
          ((has.each j (factor_coefficient us p) us at).0 m).0

  total_up_to : (first k : ℕ) (at : ℕ → ℕ) → k ≤ length Γ → total first (up_to k at) p ≡ coefficient lists f 0 * first + tail lists f 0 k at
  total_up_to first zero at h =
      total_alike (length Γ) first (up_to 0 at) nothing p p_linear (λ x l. up_to_none at x)
      ∙ total_first (length Γ) first p p_linear
      ∙ ap (λ c. c * first) (sym (coefficient_constant (length Γ) p p_linear) ∙ coefficient_there 0 no_factors (space_constant Γ sorts))
      ∙ omega arith
  total_up_to first (suc k) at h =
      let a = total_up_to first k at (omega (arith, h)) in
      let b = total_added (length Γ) first (at k) (up_to k at) (up_to (suc k) at) (only k) p p_linear (up_to_more k at) in
      let c = sym (coefficient_variable (length Γ) k p p_linear)
      ∙ coefficient_there (suc k) (times k no_arguments no_factors) (space_variable Γ sorts k h) in
      let d = tail_more lists f 0 k at in
      let e : 0 + k ≡ k = omega arith in
      let g : coefficient lists f (suc (0 + k)) ≡ coefficient lists f (suc k) = ap (λ i. coefficient lists f (suc i)) e in
      b ∙ ap₂ (λ x y. x + at k * y) a (c ∙ sym g) ∙ (let z : (coefficient lists f 0 * first + tail lists f 0 k at) + at k * coefficient lists f (suc (0 + k)) ≡ coefficient lists f 0 * first + (tail lists f 0 k at + coefficient lists f (suc (0 + k)) * at k) = omega arith in z)
      ∙ ap (λ t. coefficient lists f 0 * first + t) (sym d)

  p_sorted : Sorted p
  p_sorted = normal_sorted Γ p has.of_space.normal

  p_positive : Positive p
  p_positive = normal_positive Γ p has.of_space.normal

  at_most_times : (c k m : ℕ) → c ≤ 1 → m + k * c ≤ m + k
  at_most_times zero k m h = omega arith
  at_most_times (suc zero) k m h = omega arith
  at_most_times (suc (suc c)) k m h = absurd (omega (arith, h))

  spread_up_to : (first k : ℕ) (at : ℕ → ℕ) → spread first (up_to k at) p ≤ first + sum_to k at
  spread_up_to first zero at =
      let a = spread_alike (length Γ) first (up_to 0 at) nothing p p_linear (λ x l. up_to_none at x) in
      let b = spread_first (length Γ) first p p_linear in
      let c = at_most_times (spread 1 nothing p) first 0 (one_constant (length Γ) p p_linear p_positive p_sorted) in
      omega (arith, a, b, c)
  spread_up_to first (suc k) at =
      let a = spread_up_to first k at in
      let b = spread_added (length Γ) first (at k) (up_to k at) (up_to (suc k) at) (only k) p p_linear (up_to_more k at) in
      let c = at_most_times (spread 0 (only k) p) (at k) (spread first (up_to k at) p) (one_variable (length Γ) k p p_linear p_positive p_sorted) in
      let d = sum_more k at in
      omega (arith, a, b, c, d)

-- a symbol of arguments of sorts that is read by the coefficients of a list is linear in them
pub linear_symbol : (I : List Interpretation) (lists : List (List ℕ)) (Γ : List Ty) (f : ℕ) (s : Interpretation) → slice_get I f ≡ Some s
    → AreSorts (arguments s.kind) → length (arguments s.kind) ≤ 32 → HasCoefficients (arguments s.kind) (get_or lists f []) s.polynomial
    → IsLinearSymbol I Γ lists f
linear_symbol I lists Γ f s at sorts few has =
    let e : interpretation_at I f ≡ s = interpretation_is I f s at in
    let P : Interpretation → Type 0 = λ s. AreSorts (arguments s.kind) × (length (arguments s.kind) ≤ 32)
    × HasCoefficients (arguments s.kind) (get_or lists f []) s.polynomial in
    let h : P (interpretation_at I f) = subst P (sym e) (sorts, few, has) in
    let A = arguments (interpretation_at I f).kind in
    let p = (interpretation_at I f).polynomial in
    record {
      sorts = h.0;
      few = h.1;
      linear = p_linear lists f A p h.0 h.2;
      total = λ first at. total_alike (length A) first at (up_to (length A) at) p (p_linear lists f A p h.0 h.2) (λ x l. up_to_all (length A) at x l)
          ∙ total_up_to lists f A p h.0 h.2 first (length A) at (omega arith);
      spread = λ first at. (let a = spread_alike (length A) first at (up_to (length A) at) p (p_linear lists f A p h.0 h.2)
          (λ x l. up_to_all (length A) at x l) in
          let b = spread_up_to lists f A p h.0 h.2 first (length A) at in omega (arith, a, b));
    }
