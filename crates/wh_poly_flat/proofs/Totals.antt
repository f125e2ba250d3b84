-- Linear polynomials, and what they come to where the constant and the variables have weights.
use Rattle.std.proofs.Common.{◌≡◌, ℕ, ◌+◌, ◌*◌, ◌<◌, ◌≤◌, refl, ap, ap₂, ◌∙◌, sym, subst, arith, Ordering, Less, Equal, Greater}
use Rattle.wh_poly.specs.Polynomials.{Polynomial, zero_poly, plus, Factors, no_factors, times, no_arguments, argument, compare_factors}
use Rattle.wh_poly.specs.Arithmetic.{by_order, add_monomial, sum_poly, scale, multiply, constant, renumber}
use Rattle.wh_poly.proofs.OrderLaws.{factors_equal}

-- a constant, or a variable without arguments whose number is below n
abbrev pub IsUnit : ℕ → Factors → Type 0
IsUnit n no_factors = Unit {0}
IsUnit n (times x no_arguments no_factors) = x < n
IsUnit n _ = ⊥

abbrev pub IsLinear : ℕ → Polynomial → Type 0
IsLinear n zero_poly = Unit {0}
IsLinear n (plus c us p) = IsUnit n us × IsLinear n p

-- what factors come to: the weight of the constant, or that of the variable
abbrev pub weighed : ℕ → (ℕ → ℕ) → Factors → ℕ
weighed one at no_factors = one
weighed one at (times x ps us) = at x

-- what a polynomial comes to, and what it comes to where all coefficients are 1
abbrev pub total : ℕ → (ℕ → ℕ) → Polynomial → ℕ
total one at zero_poly = 0
total one at (plus c us p) = c * weighed one at us + total one at p

abbrev pub spread : ℕ → (ℕ → ℕ) → Polynomial → ℕ
spread one at zero_poly = 0
spread one at (plus c us p) = weighed one at us + spread one at p

-- totals

total_add : (one : ℕ) (at : ℕ → ℕ) (c : ℕ) (us : Factors) (q : Polynomial)
    → total one at (add_monomial c us q) ≡ c * weighed one at us + total one at q
total_add one at c us zero_poly = refl
total_add one at c us (plus d vs q) = go (total_add one at c us q) (compare_factors us vs) refl
  where
    go : total one at (add_monomial c us q) ≡ c * weighed one at us + total one at q → (o : Ordering) → compare_factors us vs ≡ o
        → total one at (by_order o (plus c us (plus d vs q)) (plus (c + d) vs q) (plus d vs (add_monomial c us q)))
        ≡ c * weighed one at us + (d * weighed one at vs + total one at q)
    go r Less e = refl
    go r Equal e = let i = ap (weighed one at) (factors_equal us vs e) in
        subst (λ k. (c + d) * weighed one at vs + total one at q ≡ c * k + (d * weighed one at vs + total one at q)) (sym i) (omega arith)
    go r Greater e = ap (λ k. d * weighed one at vs + k) r ∙ omega arith

pub total_sum : (one : ℕ) (at : ℕ → ℕ) (p q : Polynomial) → total one at (sum_poly p q) ≡ total one at p + total one at q
total_sum one at zero_poly q = omega arith
total_sum one at (plus c us p) q = total_add one at c us (sum_poly p q) ∙ (let e = total_sum one at p q in omega (arith, e))

total_scale : (one : ℕ) (at : ℕ → ℕ) (c : ℕ) (q : Polynomial) → total one at (scale c no_factors q) ≡ c * total one at q
total_scale one at c zero_poly = omega arith
total_scale one at c (plus d vs q) =
    total_add one at (c * d) vs (scale c no_factors q) ∙ (let e = total_scale one at c q in omega (arith, e))

pub total_multiply : (one : ℕ) (at : ℕ → ℕ) (c : ℕ) (q : Polynomial) → total one at (multiply (constant c) q) ≡ c * total one at q
total_multiply one at c q = total_sum one at (scale c no_factors q) zero_poly ∙ (let e = total_scale one at c q in omega (arith, e))

pub total_renumber : (one : ℕ) (at : ℕ → ℕ) (r : ℕ → ℕ) (q : Polynomial) → total one at (renumber r q) ≡ total one (λ i. at (r i)) q
total_renumber one at r zero_poly = refl
total_renumber one at r (plus c no_factors q) = ap (λ k. c * one + k) (total_renumber one at r q)
total_renumber one at r (plus c (times x ps us) q) = ap (λ k. c * at (r x) + k) (total_renumber one at r q)

-- two weights that are alike below n
pub total_alike : (n one : ℕ) (at to : ℕ → ℕ) (p : Polynomial) → IsLinear n p → ((i : ℕ) → i < n → at i ≡ to i) → total one at p ≡ total one to p
total_alike n one at to zero_poly l alike = refl
total_alike n one at to (plus c no_factors p) l alike = ap (λ k. c * one + k) (total_alike n one at to p l.1 alike)
total_alike n one at to (plus c (times x no_arguments no_factors) p) l alike =
    ap₂ (λ j k. c * j + k) (alike x l.0) (total_alike n one at to p l.1 alike)
total_alike n one at to (plus c (times x no_arguments (times y qs vs)) p) l alike = absurd l.0
total_alike n one at to (plus c (times x (argument q qs) us) p) l alike = absurd l.0

-- spreads

spread_add : (one : ℕ) (at : ℕ → ℕ) (c : ℕ) (us : Factors) (q : Polynomial)
    → spread one at (add_monomial c us q) ≤ weighed one at us + spread one at q
spread_add one at c us zero_poly = omega arith
spread_add one at c us (plus d vs q) = go (spread_add one at c us q) (compare_factors us vs)
  where
    go : spread one at (add_monomial c us q) ≤ weighed one at us + spread one at q → (o : Ordering)
        → spread one at (by_order o (plus c us (plus d vs q)) (plus (c + d) vs q) (plus d vs (add_monomial c us q)))
        ≤ weighed one at us + (weighed one at vs + spread one at q)
    go r Less = omega arith
    go r Equal = omega arith
    go r Greater = omega (arith, r)

pub spread_sum : (one : ℕ) (at : ℕ → ℕ) (p q : Polynomial) → spread one at (sum_poly p q) ≤ spread one at p + spread one at q
spread_sum one at zero_poly q = omega arith
spread_sum one at (plus c us p) q =
    let e = spread_sum one at p q in let f = spread_add one at c us (sum_poly p q) in omega (arith, e, f)

spread_scale : (one : ℕ) (at : ℕ → ℕ) (c : ℕ) (q : Polynomial) → spread one at (scale c no_factors q) ≤ spread one at q
spread_scale one at c zero_poly = omega arith
spread_scale one at c (plus d vs q) =
    let e = spread_scale one at c q in let f = spread_add one at (c * d) vs (scale c no_factors q) in omega (arith, e, f)

pub spread_multiply : (one : ℕ) (at : ℕ → ℕ) (c : ℕ) (q : Polynomial) → spread one at (multiply (constant c) q) ≤ spread one at q
spread_multiply one at c q =
    let e = spread_scale one at c q in let f = spread_sum one at (scale c no_factors q) zero_poly in omega (arith, e, f)

pub spread_renumber : (one : ℕ) (at : ℕ → ℕ) (r : ℕ → ℕ) (q : Polynomial) → spread one at (renumber r q) ≡ spread one (λ i. at (r i)) q
spread_renumber one at r zero_poly = refl
spread_renumber one at r (plus c no_factors q) = ap (λ k. one + k) (spread_renumber one at r q)
spread_renumber one at r (plus c (times x ps us) q) = ap (λ k. at (r x) + k) (spread_renumber one at r q)

pub spread_alike : (n one : ℕ) (at to : ℕ → ℕ) (p : Polynomial) → IsLinear n p → ((i : ℕ) → i < n → at i ≡ to i) → spread one at p ≡ spread one to p
spread_alike n one at to zero_poly l alike = refl
spread_alike n one at to (plus c no_factors p) l alike = ap (λ k. one + k) (spread_alike n one at to p l.1 alike)
spread_alike n one at to (plus c (times x no_arguments no_factors) p) l alike =
    ap₂ (λ j k. j + k) (alike x l.0) (spread_alike n one at to p l.1 alike)
spread_alike n one at to (plus c (times x no_arguments (times y qs vs)) p) l alike = absurd l.0
spread_alike n one at to (plus c (times x (argument q qs) us) p) l alike = absurd l.0

-- linear ones

linear_add : (n c : ℕ) (us : Factors) (q : Polynomial) → IsUnit n us → IsLinear n q → IsLinear n (add_monomial c us q)
linear_add n c us zero_poly u l = (u, tt)
linear_add n c us (plus d vs q) u l = go (linear_add n c us q u l.1) (compare_factors us vs)
  where
    go : IsLinear n (add_monomial c us q) → (o : Ordering)
        → IsLinear n (by_order o (plus c us (plus d vs q)) (plus (c + d) vs q) (plus d vs (add_monomial c us q)))
    go r Less = (u, l)
    go r Equal = l
    go r Greater = (l.0, r)

pub linear_sum : (n : ℕ) (p q : Polynomial) → IsLinear n p → IsLinear n q → IsLinear n (sum_poly p q)
linear_sum n zero_poly q l m = m
linear_sum n (plus c us p) q l m = linear_add n c us (sum_poly p q) l.0 (linear_sum n p q l.1 m)

linear_scale : (n c : ℕ) (q : Polynomial) → IsLinear n q → IsLinear n (scale c no_factors q)
linear_scale n c zero_poly l = tt
linear_scale n c (plus d vs q) l = linear_add n (c * d) vs (scale c no_factors q) l.0 (linear_scale n c q l.1)

pub linear_multiply : (n c : ℕ) (q : Polynomial) → IsLinear n q → IsLinear n (multiply (constant c) q)
linear_multiply n c q l = linear_sum n (scale c no_factors q) zero_poly (linear_scale n c q l) tt

pub linear_renumber : (n m : ℕ) (r : ℕ → ℕ) (q : Polynomial) → ((i : ℕ) → i < n → r i < m) → IsLinear n q → IsLinear m (renumber r q)
linear_renumber n m r zero_poly h l = tt
linear_renumber n m r (plus c no_factors q) h l = (tt, linear_renumber n m r q h l.1)
linear_renumber n m r (plus c (times x no_arguments no_factors) q) h l = (h x l.0, linear_renumber n m r q h l.1)
linear_renumber n m r (plus c (times x no_arguments (times y qs vs)) q) h l = absurd l.0
linear_renumber n m r (plus c (times x (argument p qs) us) q) h l = absurd l.0
