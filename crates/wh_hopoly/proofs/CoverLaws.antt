-- At least another, monomial by monomial.
use Rattle.std.proofs.Common.{◌≡◌, ◌↔◌, ℕ, ◌≤◌, ◌<◌, inl, inr, sym, subst, arith, Less, Equal, Greater}
use Rattle.wh_poly.specs.Polynomials.{Polynomial, zero_poly, plus, Factors, compare_factors, MonomialBefore, Sorted}
use Rattle.wh_hopoly.specs.Covers.{Has, AtLeast}
use Rattle.wh_poly.proofs.OrderLaws.{factors_equal, factors_same}
use Rattle.wh_poly.proofs.SumLaws.{before_then}

-- what a sorted polynomial has stands after what is before it
pub before_has : (us : Factors) (p : Polynomial) (d : ℕ) (vs : Factors) → MonomialBefore us p → Sorted p → Has p d vs → compare_factors us vs ≡ Less
before_has us zero_poly d vs b s h = absurd h
before_has us (plus c ws p) d vs b s (inl e) = subst (λ vs. compare_factors us vs ≡ Less) e.0 b
before_has us (plus c ws p) d vs b s (inr h) = before_has us p d vs (before_then us ws p b s.0) s.1 h

not_before_itself : (us vs : Factors) → compare_factors us vs ≡ Less → us ≡ vs → ⊥
not_before_itself us vs h e = let k = subst (λ vs. compare_factors us vs ≡ Equal) e (factors_same us) in grind (arith, h, k)

-- a monomial before all of q is of no use for it
without_first : (c : ℕ) (us : Factors) (p q : Polynomial) → MonomialBefore us q → Sorted q → AtLeast (plus c us p) q → AtLeast p q
without_first c us p zero_poly b s h = tt
without_first c us p (plus d vs q) b s (inl e, t) = absurd (not_before_itself us vs b e.0)
without_first c us p (plus d vs q) b s (inr h, t) = (h, without_first c us p q (before_then us vs q b s.0) s.1 t)

with_first : (c : ℕ) (us : Factors) (p q : Polynomial) → AtLeast p q → AtLeast (plus c us p) q
with_first c us p zero_poly h = tt
with_first c us p (plus d vs q) h = (inr h.0, with_first c us p q h.1)

-- the three steps of a walk over two sorted polynomials
pub at_least_less : (c d : ℕ) (us vs : Factors) (p q : Polynomial) → compare_factors us vs ≡ Less → Sorted (plus d vs q)
    → AtLeast (plus c us p) (plus d vs q) ↔ AtLeast p (plus d vs q)
at_least_less c d us vs p q o t = (without_first c us p (plus d vs q) o t, with_first c us p (plus d vs q))

pub at_least_equal : (c d : ℕ) (us vs : Factors) (p q : Polynomial) → compare_factors us vs ≡ Equal → d ≤ c → Sorted (plus d vs q)
    → AtLeast (plus c us p) (plus d vs q) ↔ AtLeast p q
at_least_equal c d us vs p q o l t = let e = factors_equal us vs o in
    (λ h. without_first c us p q (subst (λ us. MonomialBefore us q) (sym e) t.0) t.1 h.1, λ h. (inl (e, l), with_first c us p q h))

pub not_at_least_equal : (c d : ℕ) (us vs : Factors) (p q : Polynomial) → compare_factors us vs ≡ Equal → c < d → Sorted (plus c us p)
    → AtLeast (plus c us p) (plus d vs q) → ⊥
not_at_least_equal c d us vs p q o l s (inl e, h) = let k = e.1 in omega (arith, k, l)
not_at_least_equal c d us vs p q o l s (inr k, h) = let b = before_has us p d vs s.0 s.1 k in grind (arith, b, o)

pub not_at_least_greater : (c d : ℕ) (us vs : Factors) (p q : Polynomial) → compare_factors us vs ≡ Greater → Sorted (plus c us p)
    → AtLeast (plus c us p) (plus d vs q) → ⊥
not_at_least_greater c d us vs p q o s (inl e, h) = let k = subst (λ vs. compare_factors us vs ≡ Equal) e.0 (factors_same us) in grind (arith, k, o)
not_at_least_greater c d us vs p q o s (inr k, h) = let b = before_has us p d vs s.0 s.1 k in grind (arith, b, o)
