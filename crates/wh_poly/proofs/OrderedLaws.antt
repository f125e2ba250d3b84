-- Sums and products of polynomials in order, whatever their scopes.
use Rattle.std.proofs.Common.{◌≡◌, ℕ, ◌+◌, ◌*◌, ◌≤◌, List, refl, subst, arith, Ordering, Less, Equal, Greater, nat_cmp}
use Rattle.std.specs.Ordering.{ordering_then}
use Rattle.wh_types.specs.Ty.{Ty}
use Rattle.wh_poly.specs.Polynomials.{Polynomial, zero_poly, plus, Factors, no_factors, times, Arguments, compare_factors, compare_arguments, Sorted, OrderedFactors, Ordered, Normal, NormalFactors}
use Rattle.wh_poly.specs.Arithmetic.{by_order, add_monomial, sum_poly, join_factor, join_factors, scale, multiply}
use Rattle.wh_poly.specs.Limits.{TooLarge}
use Rattle.wh_poly.specs.Excesses.{ExceedsAs}
use Rattle.wh_poly.specs.declared.excess.Excess.{Excess}
use Rattle.wh_poly.specs.declared.excess.Excess.TheVariants as excess
use Rattle.wh_poly.specs.Rearranged.{coefficient, Positive}
use Rattle.wh_poly.proofs.SumLaws.{before_more, later, less_not, equal_not, one_product}
use Rattle.wh_poly.proofs.LimitLaws.{left_overflows, right_overflows, right_large}
use Rattle.wh_poly.proofs.CoefficientLaws.{coefficient_sum, same_coefficients}

-- normal polynomials are in order
normal_ordered_factors : (Γ : List Ty) (us : Factors) → NormalFactors Γ us → OrderedFactors us
normal_ordered_factors Γ no_factors n = tt
normal_ordered_factors Γ (times x ps us) n = (n.3, normal_ordered_factors Γ us n.4)

pub normal_ordered : (Γ : List Ty) (p : Polynomial) → Normal Γ p → Ordered p
normal_ordered Γ zero_poly n = tt
normal_ordered Γ (plus c us p) n = (n.0, normal_ordered_factors Γ us n.1, n.2, normal_ordered Γ p n.3)

pub ordered_sorted : (p : Polynomial) → Ordered p → Sorted p
ordered_sorted zero_poly n = tt
ordered_sorted (plus c us p) n = (n.2, ordered_sorted p n.3)

pub ordered_positive : (p : Polynomial) → Ordered p → Positive p
ordered_positive zero_poly n = tt
ordered_positive (plus c us p) n = (n.0, ordered_positive p n.3)

-- sums and products are in order
pub ordered_add : (c : ℕ) (us : Factors) (q : Polynomial) → 1 ≤ c → OrderedFactors us → Ordered q → Ordered (add_monomial c us q)
ordered_add c us zero_poly l a n = (l, a, tt, tt)
ordered_add c us (plus d vs q) l a n = go (ordered_add c us q l a n.3) (compare_factors us vs) refl
  where
    go : Ordered (add_monomial c us q) → (o : Ordering) → compare_factors us vs ≡ o → Ordered (by_order o (plus c us (plus d vs q)) (plus (c + d) vs q) (plus d vs (add_monomial c us q)))
    go r Less e = (l, a, e, n)
    go r Equal e = (omega (arith, l), n.1, n.2, n.3)
    go r Greater e = (n.0, n.1, before_more vs us c q e n.2, r)

pub ordered_sum : (p q : Polynomial) → Ordered p → Ordered q → Ordered (sum_poly p q)
ordered_sum zero_poly q n m = m
ordered_sum (plus c us p) q n m = ordered_add c us (sum_poly p q) n.0 n.1 (ordered_sum p q n.3 m)

pub ordered_join : (x : ℕ) (ps : Arguments) (us : Factors) → OrderedFactors us → OrderedFactors (join_factor x ps us)
ordered_join x ps no_factors n = (tt, tt)
ordered_join x ps (times y qs us) n = go (ordered_join x ps us n.1) (ordering_then (nat_cmp x y) (compare_arguments ps qs)) refl
  where
    go : OrderedFactors (join_factor x ps us) → (o : Ordering) → ordering_then (nat_cmp x y) (compare_arguments ps qs) ≡ o
        → OrderedFactors (by_order o (times x ps (times y qs us)) (times x ps (times y qs us)) (times y qs (join_factor x ps us)))
    go r Less i = (less_not _ i, n)
    go r Equal i = (equal_not _ i, n)
    go r Greater i = (later y qs x ps us i n.0, r)

pub ordered_joins : (us vs : Factors) → OrderedFactors vs → OrderedFactors (join_factors us vs)
ordered_joins no_factors vs m = m
ordered_joins (times x ps us) vs m = ordered_join x ps (join_factors us vs) (ordered_joins us vs m)

pub ordered_scale : (c : ℕ) (us : Factors) (q : Polynomial) → 1 ≤ c → Ordered q → Ordered (scale c us q)
ordered_scale c us zero_poly l n = tt
ordered_scale c us (plus d vs q) l n = ordered_add (c * d) (join_factors us vs) (scale c us q) (one_product c d l n.0) (ordered_joins us vs n.1) (ordered_scale c us q l n.3)

pub ordered_multiply : (p q : Polynomial) → Ordered p → Ordered q → Ordered (multiply p q)
ordered_multiply zero_poly q n m = tt
ordered_multiply (plus c us p) q n m = ordered_sum (scale c us q) (multiply p q) (ordered_scale c us q n.0 m) (ordered_multiply p q n.3 m)

-- they commute and associate
pub equal_ordered : (p q : Polynomial) → Ordered p → Ordered q → ((ws : Factors) → coefficient ws p ≡ coefficient ws q) → p ≡ q
equal_ordered p q n m h = same_coefficients p q (ordered_sorted p n) (ordered_sorted q m) (ordered_positive p n) (ordered_positive q m) h

pub ordered_commute : (p q : Polynomial) → Ordered p → Ordered q → sum_poly p q ≡ sum_poly q p
ordered_commute p q n m = equal_ordered (sum_poly p q) (sum_poly q p) (ordered_sum p q n m) (ordered_sum q p m n)
    (λ ws. let a = coefficient_sum ws p q in let b = coefficient_sum ws q p in omega (arith, a, b))

pub ordered_associate : (p q r : Polynomial) → Ordered p → Ordered q → Ordered r → sum_poly (sum_poly p q) r ≡ sum_poly p (sum_poly q r)
ordered_associate p q r n m o = equal_ordered (sum_poly (sum_poly p q) r) (sum_poly p (sum_poly q r)) (ordered_sum (sum_poly p q) r (ordered_sum p q n m) o) (ordered_sum p (sum_poly q r) n (ordered_sum q r m o))
    (λ ws. let a = coefficient_sum ws (sum_poly p q) r in let b = coefficient_sum ws p q in let c = coefficient_sum ws p (sum_poly q r) in let d = coefficient_sum ws q r in omega (arith, a, b, c, d))

-- what exceeds does so in each sum
pub exceeds_right : (e : Excess) (p q : Polynomial) → ExceedsAs e q → ExceedsAs e (sum_poly p q)
exceeds_right excess.Overflow p q h = right_overflows p q h
exceeds_right excess.TooLarge p q h = right_large p q h

pub exceeds_left : (e : Excess) (p q : Polynomial) → Ordered p → Ordered q → ExceedsAs e p → ExceedsAs e (sum_poly p q)
exceeds_left excess.Overflow p q n m h = left_overflows p q h
exceeds_left excess.TooLarge p q n m h = subst TooLarge (ordered_commute q p m n) (right_large q p h)
