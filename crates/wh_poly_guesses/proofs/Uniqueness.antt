-- Polynomials of the space that have the same coefficients are one.
use Rattle.std.proofs.Common.{◌≡◌, ℕ, zero, suc, ◌+◌, ◌<◌, ◌≤◌, List, length, get_or, Ordering, Less, Equal, Greater, refl, ap, sym, subst, ◌∙◌, arith}
use Rattle.std.specs.Ordering.{ordering_reverse}
use Rattle.std.proofs.lemmas.Option.{slice_get_within}
use Rattle.wh_types.specs.Ty.{Ty}
use Rattle.wh_pairs.proofs.ByPlace.{place_of}
use Rattle.wh_poly.specs.Polynomials.{Polynomial, zero_poly, plus, Factors, compare_factors, MonomialBefore, Sorted, Normal}
use Rattle.wh_poly.specs.Arithmetic.{by_order}
use Rattle.wh_hopoly.specs.Moves.{MonomialAt}
use Rattle.wh_poly.proofs.OrderLaws.{factors_equal, factors_same, factors_reverse}
use Rattle.wh_poly.proofs.SumLaws.{before_then, normal_sorted}
use Rattle.wh_poly.proofs.CoefficientLaws.{same_coefficients}
use Rattle.wh_poly.specs.Rearranged.{coefficient, Positive}
use Rattle.wh_poly_space.specs.Space.{HasMonomial, space_of}
use Rattle.wh_poly_space.specs.Coefficients.{capped, HasCoefficients}

pub normal_positive : (Γ : List Ty) (p : Polynomial) → Normal Γ p → Positive p
normal_positive Γ zero_poly n = tt
normal_positive Γ (plus c us p) n = (n.0, normal_positive Γ p n.3)

-- factors before all of a polynomial do not stand in it
absent : (us : Factors) (p : Polynomial) → MonomialBefore us p → Sorted p → coefficient us p ≡ 0
absent us zero_poly b s = refl
absent us (plus d vs p) b s =
    ap (λ o. by_order o 0 d 0 + coefficient us p) b ∙ (let e = absent us p (before_then us vs p b s.0) s.1 in omega (arith, e))

-- the monomials of a sorted polynomial stand behind what is before all of it
later : (us : Factors) (p : Polynomial) (i c : ℕ) (ws : Factors)
    → MonomialBefore us p → Sorted p → MonomialAt p i c ws → compare_factors us ws ≡ Less
later us zero_poly i c ws b s at = absurd at
later us (plus d vs p) zero c ws b s at = subst (λ ws. compare_factors us ws ≡ Less) at.1 b
later us (plus d vs p) (suc i) c ws b s at = later us p i c ws (before_then us vs p b s.0) s.1 at

at_place : (p : Polynomial) (i c : ℕ) (us : Factors) → Sorted p → MonomialAt p i c us → coefficient us p ≡ c
at_place zero_poly i c us s at = absurd at
at_place (plus d vs p) zero c us s at =
    let e = absent us p (subst (λ us. MonomialBefore us p) at.1 s.0) s.1 in
    let o : compare_factors us vs ≡ Equal = subst (λ us. compare_factors us vs ≡ Equal) at.1 (factors_same vs) in
    let f = ap (λ o. by_order o 0 d 0 + coefficient us p) o in
    omega (arith, e, f, at.0)
at_place (plus d vs p) (suc i) c us s at =
    let e = at_place p i c us s.1 at in
    let o : compare_factors us vs ≡ Greater = factors_reverse us vs ∙ ap ordering_reverse (later vs p i c us s.0 s.1 at) in
    let f = ap (λ o. by_order o 0 d 0 + coefficient us p) o in
    omega (arith, e, f)

-- the coefficient of a monomial is that which it is found with
pub coefficient_is : (Γ : List Ty) (p : Polynomial) (c : ℕ) (us : Factors) → Normal Γ p → HasMonomial p c us → coefficient us p ≡ c
coefficient_is Γ p c us normal (i, at) = at_place p i c us (normal_sorted Γ p normal) at

coefficient_at_least : (p : Polynomial) (i c : ℕ) (us : Factors) → Positive p → MonomialAt p i c us → 1 ≤ c
coefficient_at_least zero_poly i c us l at = absurd at
coefficient_at_least (plus d vs p) zero c us l at = omega (arith, l.0, at.0)
coefficient_at_least (plus d vs p) (suc i) c us l at = coefficient_at_least p i c us l.1 at

-- a coefficient that is not 0 is that of a monomial
found_at : (p : Polynomial) (us : Factors) → Sorted p → 1 ≤ coefficient us p → HasMonomial p (coefficient us p) us
found_at zero_poly us s l = absurd (omega (arith, l))
found_at (plus d vs p) us s l = go (found_at p us s.1) (compare_factors us vs) refl
  where
    ahead : (1 ≤ coefficient us p → HasMonomial p (coefficient us p) us) → coefficient us (plus d vs p) ≡ coefficient us p
        → HasMonomial (plus d vs p) (coefficient us (plus d vs p)) us
    ahead there same =
        let (i, at) = there (omega (arith, l, same)) in
        (suc i, subst (λ c. MonomialAt p i c us) (sym same) at)

    go : (1 ≤ coefficient us p → HasMonomial p (coefficient us p) us) → (o : Ordering) → compare_factors us vs ≡ o
        → HasMonomial (plus d vs p) (coefficient us (plus d vs p)) us
    go there Less e = ahead there (ap (λ o. by_order o 0 d 0 + coefficient us p) e ∙ omega arith)
    go there Equal e =
        let f : us ≡ vs = factors_equal us vs e in
        let none = absent us p (subst (λ us. MonomialBefore us p) (sym f) s.0) s.1 in
        let same : coefficient us (plus d vs p) ≡ d = ap (λ o. by_order o 0 d 0 + coefficient us p) e ∙ omega (arith, none) in
        (0, (sym same, sym f))
    go there Greater e = ahead there (ap (λ o. by_order o 0 d 0 + coefficient us p) e ∙ omega arith)

pub monomial_of : (Γ : List Ty) (p : Polynomial) (us : Factors) → Normal Γ p → 1 ≤ coefficient us p → HasMonomial p (coefficient us p) us
monomial_of Γ p us normal l = found_at p us (normal_sorted Γ p normal) l

pub monomial_at_least : (Γ : List Ty) (p : Polynomial) (c : ℕ) (us : Factors) → Normal Γ p → HasMonomial p c us → 1 ≤ c
monomial_at_least Γ p c us normal (i, at) = coefficient_at_least p i c us (normal_positive Γ p normal) at

-- a coefficient of the one that is not 0 is one of the other
same_one : (Γ : List Ty) (cs ds : List ℕ) (p q : Polynomial) → HasCoefficients Γ cs p → HasCoefficients Γ ds q
    → ((j : ℕ) → j < length (space_of Γ) → capped (get_or cs j 0) ≡ capped (get_or ds j 0))
    → (us : Factors) → 1 ≤ coefficient us p → coefficient us q ≡ coefficient us p
same_one Γ cs ds p q has also same us l =
    let normal = has.of_space.normal in
    let m = monomial_of Γ p us normal l in
    let (j, at) = place_of (space_of Γ) us (has.of_space.monomials (coefficient us p) us m).1 in
    let is = (has.each j (coefficient us p) us at).0 m in
    let within = slice_get_within (space_of Γ) j us at in
    coefficient_is Γ q (coefficient us p) us also.of_space.normal ((also.each j (coefficient us p) us at).1 (is.0 ∙ same j within, is.1))

either : (a b : ℕ) → (1 ≤ a → b ≡ a) → (1 ≤ b → a ≡ b) → a ≡ b
either zero zero f g = refl
either zero (suc b) f g = g (omega arith)
either (suc a) b f g = sym (f (omega arith))

pub same_polynomial : (Γ : List Ty) (cs ds : List ℕ) (p q : Polynomial) → HasCoefficients Γ cs p → HasCoefficients Γ ds q
    → ((j : ℕ) → j < length (space_of Γ) → capped (get_or cs j 0) ≡ capped (get_or ds j 0)) → p ≡ q
same_polynomial Γ cs ds p q has also same =
    let n = has.of_space.normal in
    let m = also.of_space.normal in
    same_coefficients p q (normal_sorted Γ p n) (normal_sorted Γ q m) (normal_positive Γ p n) (normal_positive Γ q m)
    (λ us. either (coefficient us p) (coefficient us q) (same_one Γ cs ds p q has also same us)
    (same_one Γ ds cs q p also has (λ j within. sym (same j within)) us))
