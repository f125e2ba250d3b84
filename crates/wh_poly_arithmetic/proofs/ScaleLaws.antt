-- Products with one monomial on the right: two of them are one with the factors of both, and no two monomials become one.
use Rattle.std.proofs.Common.{◌≡◌, ℕ, ◌+◌, ◌*◌, ◌<◌, ◌≤◌, ◌^◌, inl, inr, refl, ap, ap₂, sym, ◌∙◌, arith, mul_assoc, add-mul, mul-one, one-mul, mul-le-mul, le_refl, Ordering, Less, Equal, Greater}
use Rattle.std.specs.Prelude.{max}
use Rattle.wh_poly.specs.Polynomials.{Polynomial, zero_poly, plus, Factors, no_factors, times, Arguments, compare_factors, compare_factor, MonomialBefore, Sorted, OrderedFactors, Ordered}
use Rattle.wh_poly.specs.Arithmetic.{by_order, add_monomial, join_factor, join_factors, multiply, constant}
use Rattle.wh_poly.specs.Limits.{weight, weight_of_factors, nesting, nesting_of_factors, Overflows}
use Rattle.wh_poly_arithmetic.specs.Growing.{HasCoefficientsUpTo, monomial_count}
use Rattle.wh_poly.specs.Rearranged.{coefficient}
use Rattle.wh_poly.proofs.OrderLaws.{then_equal, factors_equal, factors_same}
use Rattle.wh_poly.proofs.SumLaws.{add_front, before_then, one_product}
use Rattle.wh_poly.proofs.JoinLaws.{join_front, joins_none}
use Rattle.wh_poly.proofs.CoefficientLaws.{coefficient_add, two_parts}
use Rattle.wh_poly.proofs.OrderedLaws.{ordered_add, ordered_joins, ordered_multiply, ordered_sorted, equal_ordered}
use Rattle.wh_poly.proofs.GrowingLaws.{join_commutes, join_out, weight_joins, nesting_joins}

abbrev pub one : ℕ → Factors → Polynomial
one c us = plus c us zero_poly

-- lists of factors are joined in any grouping, and from either side
pub joins_associate : (ws us vs : Factors) → join_factors (join_factors ws us) vs ≡ join_factors ws (join_factors us vs)
joins_associate no_factors us vs = refl
joins_associate (times x ps ws) us vs = join_out x ps (join_factors ws us) vs ∙ ap (join_factor x ps) (joins_associate ws us vs)

join_in : (x : ℕ) (ps : Arguments) (us vs : Factors) → join_factors us (join_factor x ps vs) ≡ join_factor x ps (join_factors us vs)
join_in x ps no_factors vs = refl
join_in x ps (times y qs us) vs = ap (join_factor y qs) (join_in x ps us vs) ∙ join_commutes y qs x ps (join_factors us vs)

pub joins_commute : (ws us : Factors) → OrderedFactors ws → OrderedFactors us → join_factors ws us ≡ join_factors us ws
joins_commute no_factors us n m = sym (joins_none us m)
joins_commute (times x ps ws) us n m = ap (join_factor x ps) (joins_commute ws us n.1 m) ∙ sym (join_in x ps us ws) ∙ ap (join_factors us) (join_front x ps ws n.0)

-- a factor that has joined can be taken out again
abbrev without : ℕ → Arguments → Factors → Factors
without x ps no_factors = no_factors
without x ps (times y qs us) = by_order (compare_factor x ps y qs) (times y qs (without x ps us)) us (times y qs (without x ps us))

factor_same : (x : ℕ) (ps : Arguments) → compare_factor x ps x ps ≡ Equal
factor_same x ps = (then_equal (compare_factor x ps x ps) (compare_factors no_factors no_factors) (factors_same (times x ps no_factors))).0

without_joined : (x : ℕ) (ps : Arguments) (us : Factors) → without x ps (join_factor x ps us) ≡ us
without_joined x ps no_factors = ap (λ o. by_order o (times x ps no_factors) no_factors (times x ps no_factors)) (factor_same x ps)
without_joined x ps (times y qs us) = go (without_joined x ps us) (compare_factor x ps y qs) refl
  where
    front : without x ps (times x ps (times y qs us)) ≡ times y qs us
    front = ap (λ o. by_order o (times x ps (without x ps (times y qs us))) (times y qs us) (times x ps (without x ps (times y qs us)))) (factor_same x ps)

    go : without x ps (join_factor x ps us) ≡ us → (o : Ordering) → compare_factor x ps y qs ≡ o
        → without x ps (by_order o (times x ps (times y qs us)) (times x ps (times y qs us)) (times y qs (join_factor x ps us))) ≡ times y qs us
    go r Less e = front
    go r Equal e = front
    go r Greater e =
        ap (λ o. by_order o (times y qs (without x ps (join_factor x ps us))) (join_factor x ps us) (times y qs (without x ps (join_factor x ps us)))) e ∙ ap (times y qs) r

joins_cancel : (us ws xs : Factors) → join_factors us ws ≡ join_factors us xs → ws ≡ xs
joins_cancel no_factors ws xs e = e
joins_cancel (times x ps us) ws xs e =
    joins_cancel us ws xs (sym (without_joined x ps (join_factors us ws)) ∙ ap (without x ps) e ∙ without_joined x ps (join_factors us xs))

same_before : (ws xs us : Factors) → OrderedFactors ws → OrderedFactors xs → OrderedFactors us → join_factors ws us ≡ join_factors xs us → ws ≡ xs
same_before ws xs us n m o e = joins_cancel us ws xs (sym (joins_commute ws us n o) ∙ e ∙ joins_commute xs us m o)

-- two monomials that join a polynomial
adds_commute : (a b : ℕ) (us vs : Factors) (q : Polynomial) → 1 ≤ a → 1 ≤ b → OrderedFactors us → OrderedFactors vs → Ordered q
    → add_monomial a us (add_monomial b vs q) ≡ add_monomial b vs (add_monomial a us q)
adds_commute a b us vs q l k n m o = equal_ordered (add_monomial a us (add_monomial b vs q)) (add_monomial b vs (add_monomial a us q))
    (ordered_add a us (add_monomial b vs q) l n (ordered_add b vs q k m o)) (ordered_add b vs (add_monomial a us q) k m (ordered_add a us q l n o))
    (λ ws. let e = coefficient_add ws a us (add_monomial b vs q) in let f = coefficient_add ws b vs q in let g = coefficient_add ws b vs (add_monomial a us q) in
    let h = coefficient_add ws a us q in omega (arith, e, f, g, h))

adds_same : (a b : ℕ) (us : Factors) (q : Polynomial) → 1 ≤ a → 1 ≤ b → OrderedFactors us → Ordered q → add_monomial a us (add_monomial b us q) ≡ add_monomial (a + b) us q
adds_same a b us q l k n o = equal_ordered (add_monomial a us (add_monomial b us q)) (add_monomial (a + b) us q)
    (ordered_add a us (add_monomial b us q) l n (ordered_add b us q k n o)) (ordered_add (a + b) us q (omega (arith, l)) n o)
    (λ ws. let e = coefficient_add ws a us (add_monomial b us q) in let f = coefficient_add ws b us q in let g = coefficient_add ws (a + b) us q in
    let t = two_parts (compare_factors ws us) a b (coefficient ws q) in omega (arith, e, f, g, t))

-- the product takes in a monomial on the left
multiply_add : (a d : ℕ) (ws vs : Factors) (m : Polynomial) → 1 ≤ a → 1 ≤ d → OrderedFactors vs → Ordered m
    → multiply (add_monomial a ws m) (one d vs) ≡ add_monomial (a * d) (join_factors ws vs) (multiply m (one d vs))
multiply_add a d ws vs zero_poly l k n o = refl
multiply_add a d ws vs (plus b xs q) l k n o = go (multiply_add a d ws vs q l k n o.3) (compare_factors ws xs) refl
  where
    rest : Polynomial
    rest = multiply q (one d vs)

    rest_ordered : Ordered (multiply q (one d vs))
    rest_ordered = ordered_multiply q (one d vs) o.3 (k, n, tt, tt)

    go : multiply (add_monomial a ws q) (one d vs) ≡ add_monomial (a * d) (join_factors ws vs) (multiply q (one d vs)) → (o : Ordering) → compare_factors ws xs ≡ o
        → multiply (by_order o (plus a ws (plus b xs q)) (plus (a + b) xs q) (plus b xs (add_monomial a ws q))) (one d vs)
        ≡ add_monomial (a * d) (join_factors ws vs) (add_monomial (b * d) (join_factors xs vs) (multiply q (one d vs)))
    go r Less e = refl
    go r Equal e =
        ap (λ c. add_monomial c (join_factors xs vs) (multiply q (one d vs))) (add-mul a b d)
        ∙ sym (adds_same (a * d) (b * d) (join_factors xs vs) (multiply q (one d vs)) (one_product a d l k) (one_product b d o.0 k) (ordered_joins xs vs n) rest_ordered)
        ∙ ap (λ ws. add_monomial (a * d) (join_factors ws vs) (add_monomial (b * d) (join_factors xs vs) (multiply q (one d vs)))) (sym (factors_equal ws xs e))
    go r Greater e =
        ap (add_monomial (b * d) (join_factors xs vs)) r
        ∙ adds_commute (b * d) (a * d) (join_factors xs vs) (join_factors ws vs) (multiply q (one d vs)) (one_product b d o.0 k) (one_product a d l k) (ordered_joins xs vs n) (ordered_joins ws vs n) rest_ordered

pub multiply_twice : (p : Polynomial) (c d : ℕ) (us vs : Factors) → Ordered p → 1 ≤ c → 1 ≤ d → OrderedFactors us → OrderedFactors vs
    → multiply (multiply p (one c us)) (one d vs) ≡ multiply p (one (c * d) (join_factors us vs))
multiply_twice zero_poly c d us vs o l k n m = refl
multiply_twice (plus a ws p) c d us vs o l k n m =
    multiply_add (a * c) d (join_factors ws us) vs (multiply p (one c us)) (one_product a c o.0 l) k m (ordered_multiply p (one c us) o.3 (l, n, tt, tt))
    ∙ ap (add_monomial ((a * c) * d) (join_factors (join_factors ws us) vs)) (multiply_twice p c d us vs o.3 l k n m)
    ∙ ap₂ (λ n xs. add_monomial n xs (multiply p (one (c * d) (join_factors us vs)))) (mul_assoc a c d) (joins_associate ws us vs)

-- a product with 1
pub multiply_by_one : (p : Polynomial) → Ordered p → multiply p (constant 1) ≡ p
multiply_by_one zero_poly o = refl
multiply_by_one (plus a ws p) o =
    ap₂ (λ c us. add_monomial c us (multiply p (constant 1))) (mul-one a) (joins_none ws o.1) ∙ ap (add_monomial a ws) (multiply_by_one p o.3) ∙ add_front a ws p o.2

pub one_multiplied : (c : ℕ) (us : Factors) → multiply (constant 1) (one c us) ≡ one c us
one_multiplied c us = ap (λ c. one c us) (one-mul c)

-- none of the lists of factors is this one
abbrev Lacks : Factors → Polynomial → Type 0
Lacks us zero_poly = Unit {0}
Lacks us (plus d vs q) = (us ≡ vs → ⊥) × Lacks us q

lacks_later : (us : Factors) (p : Polynomial) → MonomialBefore us p → Sorted p → Lacks us p
lacks_later us zero_poly b s = tt
lacks_later us (plus d vs p) b s = ((λ e. differ (sym (factors_same vs) ∙ ap (λ us. compare_factors us vs) (sym e) ∙ b)), lacks_later us p (before_then us vs p b s.0) s.1)
  where
    differ : Equal ≡ Less → ⊥
    differ e = cc

lacks_add : (us : Factors) (a : ℕ) (ws : Factors) (q : Polynomial) → Lacks us q → (us ≡ ws → ⊥) → Lacks us (add_monomial a ws q)
lacks_add us a ws zero_poly h k = (k, tt)
lacks_add us a ws (plus d vs q) h k = go (lacks_add us a ws q h.1 k) (compare_factors ws vs)
  where
    go : Lacks us (add_monomial a ws q) → (o : Ordering) → Lacks us (by_order o (plus a ws (plus d vs q)) (plus (a + d) vs q) (plus d vs (add_monomial a ws q)))
    go r Less = (k, h)
    go r Equal = h
    go r Greater = (h.0, r)

lacks_multiply : (zs : Factors) (p : Polynomial) (c : ℕ) (us : Factors) → OrderedFactors zs → OrderedFactors us → Ordered p → Lacks zs p → Lacks (join_factors zs us) (multiply p (one c us))
lacks_multiply zs zero_poly c us n m o h = tt
lacks_multiply zs (plus a ws p) c us n m o h =
    lacks_add (join_factors zs us) (a * c) (join_factors ws us) (multiply p (one c us)) (lacks_multiply zs p c us n m o.3 h.1) (λ e. h.0 (same_before zs ws us n o.1 m e))

-- so the coefficients are multiplied alone
up_to_add : (n a : ℕ) (ws : Factors) (q : Polynomial) → a ≤ n → HasCoefficientsUpTo n q → Lacks ws q → HasCoefficientsUpTo n (add_monomial a ws q)
up_to_add n a ws zero_poly l h k = (l, tt)
up_to_add n a ws (plus d vs q) l h k = go (up_to_add n a ws q l h.1 k.1) (compare_factors ws vs) refl
  where
    go : HasCoefficientsUpTo n (add_monomial a ws q) → (o : Ordering) → compare_factors ws vs ≡ o
        → HasCoefficientsUpTo n (by_order o (plus a ws (plus d vs q)) (plus (a + d) vs q) (plus d vs (add_monomial a ws q)))
    go r Less e = (l, h)
    go r Equal e = absurd (k.0 (factors_equal ws vs e))
    go r Greater e = (h.0, r)

pub up_to_multiply : (n : ℕ) (p : Polynomial) (c : ℕ) (us : Factors) → OrderedFactors us → Ordered p → HasCoefficientsUpTo n p → HasCoefficientsUpTo (n * c) (multiply p (one c us))
up_to_multiply n zero_poly c us m o h = tt
up_to_multiply n (plus a ws p) c us m o h =
    up_to_add (n * c) (a * c) (join_factors ws us) (multiply p (one c us)) (mul-le-mul h.0 (le_refl c)) (up_to_multiply n p c us m o.3 h.1)
    (lacks_multiply ws p c us o.1 m o.3 (lacks_later ws p o.2 (ordered_sorted p o.3)))

pub up_to_fits : (n : ℕ) (p : Polynomial) → HasCoefficientsUpTo n p → n < 2 ^ 128 → Overflows p → ⊥
up_to_fits n zero_poly h l k = k
up_to_fits n (plus c us p) h l (inl k) = omega (arith, h.0, l, k)
up_to_fits n (plus c us p) h l (inr k) = up_to_fits n p h.1 l k

-- what it weighs and how deep it nests
pub light_add : (a : ℕ) (ws : Factors) (q : Polynomial) → weight (add_monomial a ws q) ≤ (1 + weight_of_factors ws) + weight q
light_add a ws zero_poly = omega arith
light_add a ws (plus d vs q) = go (light_add a ws q) (compare_factors ws vs)
  where
    go : weight (add_monomial a ws q) ≤ (1 + weight_of_factors ws) + weight q → (o : Ordering)
        → weight (by_order o (plus a ws (plus d vs q)) (plus (a + d) vs q) (plus d vs (add_monomial a ws q))) ≤ (1 + weight_of_factors ws) + weight (plus d vs q)
    go r Less = omega arith
    go r Equal = omega arith
    go r Greater = omega (arith, r)

pub light_multiply : (p : Polynomial) (c : ℕ) (us : Factors) → weight (multiply p (one c us)) ≤ weight p + monomial_count p * weight_of_factors us
light_multiply zero_poly c us = omega arith
light_multiply (plus a ws p) c us =
    let r = light_multiply p c us in let l = light_add (a * c) (join_factors ws us) (multiply p (one c us)) in let j = weight_joins ws us in
    let m : (1 + monomial_count p) * weight_of_factors us ≡ 1 * weight_of_factors us + monomial_count p * weight_of_factors us = add-mul 1 (monomial_count p) (weight_of_factors us) in
    let n : 1 * weight_of_factors us ≡ weight_of_factors us = one-mul (weight_of_factors us) in omega (arith, r, l, j, m, n)

pub shallow_add : (a : ℕ) (ws : Factors) (q : Polynomial) → nesting (add_monomial a ws q) ≤ max (nesting_of_factors ws) (nesting q)
shallow_add a ws zero_poly = omega arith
shallow_add a ws (plus d vs q) = go (shallow_add a ws q) (compare_factors ws vs)
  where
    go : nesting (add_monomial a ws q) ≤ max (nesting_of_factors ws) (nesting q) → (o : Ordering)
        → nesting (by_order o (plus a ws (plus d vs q)) (plus (a + d) vs q) (plus d vs (add_monomial a ws q))) ≤ max (nesting_of_factors ws) (nesting (plus d vs q))
    go r Less = omega arith
    go r Equal = omega arith
    go r Greater = omega (arith, r)

pub shallow_multiply : (p : Polynomial) (c : ℕ) (us : Factors) → nesting (multiply p (one c us)) ≤ max (nesting p) (nesting_of_factors us)
shallow_multiply zero_poly c us = omega arith
shallow_multiply (plus a ws p) c us =
    let r = shallow_multiply p c us in let l = shallow_add (a * c) (join_factors ws us) (multiply p (one c us)) in let j = nesting_joins ws us in omega (arith, r, l, j)
