-- Sums of normal polynomials by merging.
use Rattle.std.proofs.Common.{◌≡◌, ℕ, ◌+◌, List, refl, ap, ◌∙◌, subst, ◌≤◌, arith, ◌*◌, mul-le-mul, Ordering, Less, Equal, Greater, nat_cmp}
use Rattle.std.specs.Ordering.{ordering_then, ordering_reverse}
use Rattle.wh_types.specs.Ty.{Ty}
use Rattle.wh_poly.specs.Polynomials.{HasType, Polynomial, zero_poly, plus, Factors, no_factors, times, Arguments, compare_factors, compare_arguments, MonomialBefore, FactorBefore, Sorted, Normal, NormalFactors, NormalArguments}
use Rattle.wh_poly.specs.Arithmetic.{by_order, add_monomial, sum_poly, join_factor, join_factors, scale, multiply}
use Rattle.std.proofs.lemmas.Cmp.{nat_cmp_total}
use Rattle.wh_poly.proofs.OrderLaws.{factors_equal, factors_reverse, factors_between, both_reverse, arguments_reverse}

-- a list of atoms before all of a sorted polynomial is put in front
pub add_front : (c : ℕ) (us : Factors) (q : Polynomial) → MonomialBefore us q → add_monomial c us q ≡ plus c us q
add_front c us zero_poly h = refl
add_front c us (plus d vs q) h = ap (λ o. by_order o (plus c us (plus d vs q)) (plus (c + d) vs q) (plus d vs (add_monomial c us q))) h

before_add : (us : Factors) (c : ℕ) (vs : Factors) (q : Polynomial) → compare_factors us vs ≡ Less → MonomialBefore us q → MonomialBefore us (add_monomial c vs q)
before_add us c vs zero_poly h k = h
before_add us c vs (plus d ws q) h k = go (compare_factors vs ws)
  where
    go : (o : Ordering) → MonomialBefore us (by_order o (plus c vs (plus d ws q)) (plus (c + d) ws q) (plus d ws (add_monomial c vs q)))
    go Less = h
    go Equal = k
    go Greater = k

pub before_then : (us vs : Factors) (p : Polynomial) → compare_factors us vs ≡ Less → MonomialBefore vs p → MonomialBefore us p
before_then us vs zero_poly h k = tt
before_then us vs (plus d ws p) h k = (factors_between us vs ws).less h k

pub before_sum : (us : Factors) (p q : Polynomial) → MonomialBefore us p → Sorted p → MonomialBefore us q → MonomialBefore us (sum_poly p q)
before_sum us zero_poly q h s k = k
before_sum us (plus c vs p) q h s k = before_add us c vs (sum_poly p q) h (before_sum us p q (before_then us vs p h s.0) s.1 k)

-- the three steps of a merge
pub sum_less : (c d : ℕ) (us vs : Factors) (p q : Polynomial) → compare_factors us vs ≡ Less → MonomialBefore us p → Sorted p
    → sum_poly (plus c us p) (plus d vs q) ≡ plus c us (sum_poly p (plus d vs q))
sum_less c d us vs p q h b s = add_front c us (sum_poly p (plus d vs q)) (before_sum us p (plus d vs q) b s h)

opposite : (us vs : Factors) → compare_factors us vs ≡ Less → compare_factors vs us ≡ Greater
opposite us vs h = factors_reverse vs us ∙ ap ordering_reverse h

sum_past : (d : ℕ) (vs : Factors) (p q : Polynomial) → MonomialBefore vs p → Sorted p → sum_poly p (plus d vs q) ≡ plus d vs (sum_poly p q)
sum_past d vs zero_poly q h s = refl
sum_past d vs (plus c us p) q h s = ap (add_monomial c us) (sum_past d vs p q (before_then vs us p h s.0) s.1)
    ∙ ap (λ o. by_order o (plus c us (plus d vs (sum_poly p q))) (plus (c + d) vs (sum_poly p q)) (plus d vs (add_monomial c us (sum_poly p q)))) (opposite vs us h)

pub sum_greater : (c d : ℕ) (us vs : Factors) (p q : Polynomial) → compare_factors us vs ≡ Greater → MonomialBefore us p → Sorted p
    → sum_poly (plus c us p) (plus d vs q) ≡ plus d vs (sum_poly (plus c us p) q)
sum_greater c d us vs p q h b s = sum_past d vs (plus c us p) q (factors_reverse vs us ∙ ap ordering_reverse h) (b, s)

pub sum_equal : (c d : ℕ) (us vs : Factors) (p q : Polynomial) → compare_factors us vs ≡ Equal → MonomialBefore us p → Sorted p
    → sum_poly (plus c us p) (plus d vs q) ≡ plus (c + d) vs (sum_poly p q)
sum_equal c d us vs p q h b s = ap (add_monomial c us) (sum_past d vs p q (subst (λ us. MonomialBefore us p) (factors_equal us vs h) b) s)
    ∙ ap (λ o. by_order o (plus c us (plus d vs (sum_poly p q))) (plus (c + d) vs (sum_poly p q)) (plus d vs (add_monomial c us (sum_poly p q)))) h

-- sums keep the normal form
pub normal_sorted : (Γ : List Ty) (p : Polynomial) → Normal Γ p → Sorted p
normal_sorted Γ zero_poly n = tt
normal_sorted Γ (plus c us p) n = (n.2, normal_sorted Γ p n.3)

pub before_more : (vs us : Factors) (c : ℕ) (q : Polynomial) → compare_factors us vs ≡ Greater → MonomialBefore vs q → MonomialBefore vs (add_monomial c us q)
before_more vs us c q h k = before_add vs c us q (factors_reverse vs us ∙ ap ordering_reverse h) k

pub normal_add : (Γ : List Ty) (c : ℕ) (us : Factors) (q : Polynomial) → 1 ≤ c → NormalFactors Γ us → Normal Γ q → Normal Γ (add_monomial c us q)
normal_add Γ c us zero_poly l a n = (l, a, tt, tt)
normal_add Γ c us (plus d vs q) l a n = go (normal_add Γ c us q l a n.3) (compare_factors us vs) refl
  where
    go : Normal Γ (add_monomial c us q) → (o : Ordering) → compare_factors us vs ≡ o → Normal Γ (by_order o (plus c us (plus d vs q)) (plus (c + d) vs q) (plus d vs (add_monomial c us q)))
    go r Less e = (l, a, e, n)
    go r Equal e = (omega (arith, l), n.1, n.2, n.3)
    go r Greater e = (n.0, n.1, before_more vs us c q e n.2, r)

pub normal_sum : (Γ : List Ty) (p q : Polynomial) → Normal Γ p → Normal Γ q → Normal Γ (sum_poly p q)
normal_sum Γ zero_poly q n m = m
normal_sum Γ (plus c us p) q n m = normal_add Γ c us (sum_poly p q) n.0 n.1 (normal_sum Γ p q n.3 m)

-- the product
pub factor_reverse : (y : ℕ) (qs : Arguments) (x : ℕ) (ps : Arguments) → ordering_then (nat_cmp y x) (compare_arguments qs ps) ≡ ordering_reverse (ordering_then (nat_cmp x y) (compare_arguments ps qs))
factor_reverse y qs x ps = both_reverse _ _ _ _ (nat_cmp_total.antisymm y x) (arguments_reverse qs ps)

pub later : (y : ℕ) (qs : Arguments) (x : ℕ) (ps : Arguments) (us : Factors) → ordering_then (nat_cmp x y) (compare_arguments ps qs) ≡ Greater → FactorBefore y qs us → FactorBefore y qs (join_factor x ps us)
later y qs x ps no_factors h k = λ e. grind (arith, factor_reverse y qs x ps, h, e)
later y qs x ps (times z rs us) h k = go (ordering_then (nat_cmp x z) (compare_arguments ps rs))
  where
    go : (o : Ordering) → FactorBefore y qs (by_order o (times x ps (times z rs us)) (times x ps (times z rs us)) (times z rs (join_factor x ps us)))
    go Less = λ e. grind (arith, factor_reverse y qs x ps, h, e)
    go Equal = λ e. grind (arith, factor_reverse y qs x ps, h, e)
    go Greater = k

pub less_not : (o : Ordering) → o ≡ Less → o ≡ Greater → ⊥
less_not o h k = grind arith

pub equal_not : (o : Ordering) → o ≡ Equal → o ≡ Greater → ⊥
equal_not o h k = grind arith

pub normal_join : (Γ : List Ty) (x : ℕ) (ps : Arguments) (us : Factors) (A : Ty) → HasType Γ x A → NormalArguments Γ A ps → NormalFactors Γ us → NormalFactors Γ (join_factor x ps us)
normal_join Γ x ps no_factors A e a n = (A, e, a, tt, tt)
normal_join Γ x ps (times y qs us) A e a n = go (normal_join Γ x ps us A e a n.4) (ordering_then (nat_cmp x y) (compare_arguments ps qs)) refl
  where
    go : NormalFactors Γ (join_factor x ps us) → (o : Ordering) → ordering_then (nat_cmp x y) (compare_arguments ps qs) ≡ o
        → NormalFactors Γ (by_order o (times x ps (times y qs us)) (times x ps (times y qs us)) (times y qs (join_factor x ps us)))
    go r Less i = (A, e, a, less_not _ i, n)
    go r Equal i = (A, e, a, equal_not _ i, n)
    go r Greater i = (n.0, n.1, n.2, later y qs x ps us i n.3, r)

pub normal_joins : (Γ : List Ty) (us vs : Factors) → NormalFactors Γ us → NormalFactors Γ vs → NormalFactors Γ (join_factors us vs)
normal_joins Γ no_factors vs n m = m
normal_joins Γ (times x ps us) vs n m = normal_join Γ x ps (join_factors us vs) n.0 n.1 n.2 (normal_joins Γ us vs n.4 m)

pub one_product : (c d : ℕ) → 1 ≤ c → 1 ≤ d → 1 ≤ c * d
one_product c d h k = mul-le-mul h k

pub normal_scale : (Γ : List Ty) (c : ℕ) (us : Factors) (q : Polynomial) → 1 ≤ c → NormalFactors Γ us → Normal Γ q → Normal Γ (scale c us q)
normal_scale Γ c us zero_poly l a n = tt
normal_scale Γ c us (plus d vs q) l a n = normal_add Γ (c * d) (join_factors us vs) (scale c us q) (one_product c d l n.0) (normal_joins Γ us vs a n.1) (normal_scale Γ c us q l a n.3)

pub normal_multiply : (Γ : List Ty) (p q : Polynomial) → Normal Γ p → Normal Γ q → Normal Γ (multiply p q)
normal_multiply Γ zero_poly q n m = tt
normal_multiply Γ (plus c us p) q n m = normal_sum Γ (scale c us q) (multiply p q) (normal_scale Γ c us q n.0 n.1 m) (normal_multiply Γ p q n.3 m)
