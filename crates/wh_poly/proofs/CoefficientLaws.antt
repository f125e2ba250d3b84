-- The coefficient of a list of factors as a function: sums add it, and normal polynomials with equal coefficients are equal.
use Rattle.std.proofs.Common.{◌⊎◌, inl, inr, List, ◌≡◌, ℕ, ◌+◌, ◌≤◌, refl, ap, sym, subst, ◌∙◌, arith, Ordering, Less, Equal, Greater}
use Rattle.std.specs.Ordering.{ordering_reverse}
use Rattle.wh_types.specs.Ty.{Ty}
use Rattle.wh_poly.specs.Polynomials.{Polynomial, zero_poly, plus, Factors, compare_factors, MonomialBefore, Sorted, Normal}
use Rattle.wh_poly.specs.Arithmetic.{by_order, add_monomial, sum_poly, scale, multiply}
use Rattle.wh_poly.specs.Limits.{Overflows, TooLarge}
use Rattle.wh_poly.specs.Rearranged.{only_if_equal, coefficient, Positive}
use Rattle.wh_poly.proofs.OrderLaws.{factors_equal, factors_same, factors_reverse}
use Rattle.wh_poly.proofs.SumLaws.{before_then, normal_sorted, normal_sum, normal_scale, normal_multiply}
use Rattle.wh_poly.proofs.LimitLaws.{left_overflows, right_overflows, right_large}

pub two_parts : (o : Ordering) (c d n : ℕ) → only_if_equal o (c + d) + n ≡ only_if_equal o c + (only_if_equal o d + n)
two_parts Less c d n = omega arith
two_parts Equal c d n = omega arith
two_parts Greater c d n = omega arith

swapped : (a b m n : ℕ) → n ≡ a + m → b + n ≡ a + (b + m)
swapped a b m n e = omega (arith, e)

pub coefficient_add : (ws : Factors) (c : ℕ) (us : Factors) (q : Polynomial) → coefficient ws (add_monomial c us q) ≡ only_if_equal (compare_factors ws us) c + coefficient ws q
coefficient_add ws c us zero_poly = refl
coefficient_add ws c us (plus d vs q) = go (coefficient_add ws c us q) (compare_factors us vs) refl
  where
    go : coefficient ws (add_monomial c us q) ≡ only_if_equal (compare_factors ws us) c + coefficient ws q → (o : Ordering) → compare_factors us vs ≡ o
        → coefficient ws (by_order o (plus c us (plus d vs q)) (plus (c + d) vs q) (plus d vs (add_monomial c us q))) ≡ only_if_equal (compare_factors ws us) c + (only_if_equal (compare_factors ws vs) d + coefficient ws q)
    go r Less e = refl
    go r Equal e = subst (λ us. only_if_equal (compare_factors ws vs) (c + d) + coefficient ws q ≡ only_if_equal (compare_factors ws us) c + (only_if_equal (compare_factors ws vs) d + coefficient ws q))
        (sym (factors_equal us vs e)) (two_parts (compare_factors ws vs) c d (coefficient ws q))
    go r Greater e = swapped (only_if_equal (compare_factors ws us) c) (only_if_equal (compare_factors ws vs) d) (coefficient ws q) (coefficient ws (add_monomial c us q)) r

pub coefficient_sum : (ws : Factors) (p q : Polynomial) → coefficient ws (sum_poly p q) ≡ coefficient ws p + coefficient ws q
coefficient_sum ws zero_poly q = omega arith
coefficient_sum ws (plus c us p) q = let a = coefficient_add ws c us (sum_poly p q) in let b = coefficient_sum ws p q in omega (arith, a, b)

normal_positive : (Γ : List Ty) (p : Polynomial) → Normal Γ p → Positive p
normal_positive Γ zero_poly n = tt
normal_positive Γ (plus c us p) n = (n.0, normal_positive Γ p n.3)

-- what stands before all of a polynomial is not in it
coefficient_before : (us : Factors) (p : Polynomial) → MonomialBefore us p → Sorted p → coefficient us p ≡ 0
coefficient_before us zero_poly b s = refl
coefficient_before us (plus d vs p) b s =
    ap (λ o. only_if_equal o d + coefficient us p) b ∙ (let e = coefficient_before us p (before_then us vs p b s.0) s.1 in omega (arith, e))

first_coefficient : (c : ℕ) (us : Factors) (p : Polynomial) → MonomialBefore us p → Sorted p → coefficient us (plus c us p) ≡ c
first_coefficient c us p b s = ap (λ o. only_if_equal o c + coefficient us p) (factors_same us) ∙ (let e = coefficient_before us p b s in omega (arith, e))

reversed : (us vs : Factors) → compare_factors us vs ≡ Greater → compare_factors vs us ≡ Less
reversed us vs o = factors_reverse vs us ∙ ap ordering_reverse o

-- polynomials with equal coefficients begin with the same factors
not_first : (c d : ℕ) (us vs : Factors) (p q : Polynomial) → compare_factors us vs ≡ Less → 1 ≤ c → Sorted (plus c us p) → Sorted (plus d vs q)
    → coefficient us (plus c us p) ≡ coefficient us (plus d vs q) → ⊥
not_first c d us vs p q o l s t e = let a = first_coefficient c us p s.0 s.1 in let b = coefficient_before us (plus d vs q) o t in omega (arith, a, b, l, e)

cancelled : (a m n : ℕ) → a + m ≡ a + n → m ≡ n
cancelled a m n e = omega (arith, e)

pub same_coefficients : (p q : Polynomial) → Sorted p → Sorted q → Positive p → Positive q → ((ws : Factors) → coefficient ws p ≡ coefficient ws q) → p ≡ q
same_coefficients zero_poly zero_poly s t l m h = refl
same_coefficients zero_poly (plus d vs q) s t l m h = absurd (let a = first_coefficient d vs q t.0 t.1 in let b = h vs in omega (arith, a, b, m.0))
same_coefficients (plus c us p) zero_poly s t l m h = absurd (let a = first_coefficient c us p s.0 s.1 in let b = h us in omega (arith, a, b, l.0))
same_coefficients (plus c us p) (plus d vs q) s t l m h = go (λ q. same_coefficients p q) (compare_factors us vs) refl
  where
    go : ((q : Polynomial) → Sorted p → Sorted q → Positive p → Positive q → ((ws : Factors) → coefficient ws p ≡ coefficient ws q) → p ≡ q) → (o : Ordering) → compare_factors us vs ≡ o → plus c us p ≡ plus d vs q
    go r Less e = absurd (not_first c d us vs p q e l.0 s t (h us))
    go r Equal e =
        let f : us ≡ vs = factors_equal us vs e in
        let b : MonomialBefore us q = subst (λ us. MonomialBefore us q) (sym f) t.0 in
        let k : (ws : Factors) → coefficient ws (plus c us p) ≡ coefficient ws (plus d us q) = λ ws. h ws ∙ ap (λ us. coefficient ws (plus d us q)) (sym f) in
        let i : c ≡ d = sym (first_coefficient c us p s.0 s.1) ∙ k us ∙ first_coefficient d us q b t.1 in
        let j : p ≡ q = r q s.1 t.1 l.1 m.1 (λ ws. cancelled (only_if_equal (compare_factors ws us) c) (coefficient ws p) (coefficient ws q)
        (k ws ∙ ap (λ d. only_if_equal (compare_factors ws us) d + coefficient ws q) (sym i))) in
        cc
    go r Greater e = absurd (not_first d c vs us q p (reversed us vs e) m.0 t s (sym (h vs)))

equal_normal : (Γ : List Ty) (p q : Polynomial) → Normal Γ p → Normal Γ q → ((ws : Factors) → coefficient ws p ≡ coefficient ws q) → p ≡ q
equal_normal Γ p q n m h = same_coefficients p q (normal_sorted Γ p n) (normal_sorted Γ q m) (normal_positive Γ p n) (normal_positive Γ q m) h

pub sum_commutes : (Γ : List Ty) (p q : Polynomial) → Normal Γ p → Normal Γ q → sum_poly p q ≡ sum_poly q p
sum_commutes Γ p q n m = equal_normal Γ (sum_poly p q) (sum_poly q p) (normal_sum Γ p q n m) (normal_sum Γ q p m n)
    (λ ws. let a = coefficient_sum ws p q in let b = coefficient_sum ws q p in omega (arith, a, b))

pub sum_associates : (Γ : List Ty) (p q r : Polynomial) → Normal Γ p → Normal Γ q → Normal Γ r → sum_poly (sum_poly p q) r ≡ sum_poly p (sum_poly q r)
sum_associates Γ p q r n m o = equal_normal Γ (sum_poly (sum_poly p q) r) (sum_poly p (sum_poly q r)) (normal_sum Γ (sum_poly p q) r (normal_sum Γ p q n m) o) (normal_sum Γ p (sum_poly q r) n (normal_sum Γ q r m o))
    (λ ws. let a = coefficient_sum ws (sum_poly p q) r in let b = coefficient_sum ws p q in let c = coefficient_sum ws p (sum_poly q r) in let d = coefficient_sum ws q r in omega (arith, a, b, c, d))

-- what is too large on the left is so in the sum
pub left_large : (Γ : List Ty) (p q : Polynomial) → Normal Γ p → Normal Γ q → TooLarge p → TooLarge (sum_poly p q)
left_large Γ p q n m h = subst TooLarge (sum_commutes Γ q p m n) (right_large q p h)

-- a row of a product, and the product without it, exceed in the product
pub row_overflows : (c : ℕ) (us : Factors) (p q : Polynomial) → Overflows (scale c us q) ⊎ Overflows (multiply p q) → Overflows (multiply (plus c us p) q)
row_overflows c us p q (inl h) = left_overflows (scale c us q) (multiply p q) h
row_overflows c us p q (inr h) = right_overflows (scale c us q) (multiply p q) h

pub row_large : (Γ : List Ty) (c : ℕ) (us : Factors) (p q : Polynomial) → Normal Γ (plus c us p) → Normal Γ q → TooLarge (scale c us q) ⊎ TooLarge (multiply p q)
    → TooLarge (multiply (plus c us p) q)
row_large Γ c us p q n m (inl h) = left_large Γ (scale c us q) (multiply p q) (normal_scale Γ c us q n.0 n.1 m) (normal_multiply Γ p q n.3 m) h
row_large Γ c us p q n m (inr h) = right_large (scale c us q) (multiply p q) h
