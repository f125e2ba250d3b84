-- A polynomial that is at least another means a number at least as great.
use Rattle.std.proofs.Common.{◌≡◌, ℕ, ◌*◌, ◌≤◌, inl, inr, List, sym, subst, arith, Less, Equal, mul-le-mul, add-le-add}
use Rattle.wh_types.specs.Ty.{Ty}
use Rattle.wh_poly.specs.Polynomials.{Polynomial, zero_poly, plus, Factors, compare_factors, MonomialBefore, Sorted}
use Rattle.wh_hopoly.specs.Covers.{Has, AtLeast}
use Rattle.wh_poly.proofs.OrderLaws.{factors_same}
use Rattle.wh_poly.proofs.SumLaws.{before_then}
use Rattle.wh_poly_meaning.specs.Valuations.{Valuation}
use Rattle.wh_poly_meaning.specs.Meaning.{den, den_factors}

-- what a sorted polynomial has stands after what is before it
before_has : (us : Factors) (p : Polynomial) (d : ℕ) (vs : Factors) → MonomialBefore us p → Sorted p → Has p d vs
    → compare_factors us vs ≡ Less
before_has us zero_poly d vs b s h = absurd h
before_has us (plus c ws p) d vs b s (inl e) = subst (λ vs. compare_factors us vs ≡ Less) e.0 b
before_has us (plus c ws p) d vs b s (inr h) = before_has us p d vs (before_then us ws p b s.0) s.1 h

not_before_itself : (us vs : Factors) → compare_factors us vs ≡ Less → us ≡ vs → ⊥
not_before_itself us vs h e = let k = subst (λ vs. compare_factors us vs ≡ Equal) e (factors_same us) in grind (arith, h, k)

without_first : (c : ℕ) (us : Factors) (p q : Polynomial) → MonomialBefore us q → Sorted q → AtLeast (plus c us p) q → AtLeast p q
without_first c us p zero_poly b s h = tt
without_first c us p (plus d vs q) b s (inl e, t) = absurd (not_before_itself us vs b e.0)
without_first c us p (plus d vs q) b s (inr h, t) = (h, without_first c us p q (before_then us vs q b s.0) s.1 t)

le_nat : (c : ℕ) → c ≤ c
le_nat c = omega arith

pub at_least_den : (Γ : List Ty) (ψ : Valuation) (a b : Polynomial) → Sorted a → Sorted b → AtLeast a b → den Γ ψ b ≤ den Γ ψ a
at_least_den Γ ψ a zero_poly s t h = omega arith
at_least_den Γ ψ zero_poly (plus d vs q) s t h = absurd h.0
at_least_den Γ ψ (plus c us p) (plus d vs q) s t (inl e, h) =
    let b : MonomialBefore us q = subst (λ us. MonomialBefore us q) (sym e.0) t.0 in
    add-le-add (subst (λ us. d * den_factors Γ ψ vs ≤ c * den_factors Γ ψ us) (sym e.0) (mul-le-mul e.1 (le_nat (den_factors Γ ψ vs)))) (at_least_den Γ ψ p q s.1 t.1 (without_first c us p q b t.1 h))
at_least_den Γ ψ (plus c us p) (plus d vs q) s t (inr k, h) =
    let l = before_has us p d vs s.0 s.1 k in
    let r = at_least_den Γ ψ p (plus d vs q) s.1 t (k, without_first c us p q (before_then us vs q l t.0) t.1 h) in
    omega (arith, r)
