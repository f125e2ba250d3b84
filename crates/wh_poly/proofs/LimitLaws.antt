-- What exceeds a limit does so in each sum that it enters.
use Rattle.std.proofs.Common.{◌≡◌, ℕ, ◌+◌, ◌≤◌, ◌^◌, inl, inr, refl, ap, arith, Ordering, Less, Equal, Greater}
use Rattle.wh_poly.specs.Polynomials.{Polynomial, zero_poly, plus, Factors, compare_factors}
use Rattle.wh_poly.specs.Arithmetic.{by_order, add_monomial, sum_poly}
use Rattle.wh_poly.specs.Limits.{weight, weight_of_factors, nesting, Overflows, TooLarge}
use Rattle.wh_poly.proofs.OrderLaws.{factors_equal}

record More (c : ℕ) (us : Factors) (q r : Polynomial) : Type 0 where
  pub first : 2 ^ 128 ≤ c → Overflows r
  pub rest : Overflows q → Overflows r
  pub heavy_first : 1 + weight_of_factors us ≤ weight r
  pub heavy_rest : weight q ≤ weight r
  pub deep_rest : nesting q ≤ nesting r

more_add : (c : ℕ) (us : Factors) (q : Polynomial) → More c us q (add_monomial c us q)
more_add c us zero_poly = record { first = inl; rest = inr; heavy_first = omega arith; heavy_rest = omega arith; deep_rest = omega arith }
more_add c us (plus d vs q) = go (more_add c us q) (compare_factors us vs) refl
  where
    go : More c us q (add_monomial c us q) → (o : Ordering) → compare_factors us vs ≡ o → More c us (plus d vs q) (by_order o (plus c us (plus d vs q)) (plus (c + d) vs q) (plus d vs (add_monomial c us q)))
    go m Less e = record { first = inl; rest = inr; heavy_first = omega arith; heavy_rest = omega arith; deep_rest = omega arith }
    go m Equal e = record {
      first = λ h. inl (omega (arith, h));
      rest = λ h. elim h [ inl l ↦ inl (omega (arith, l)) | inr r ↦ inr r ];
      heavy_first = (let z = ap weight_of_factors (factors_equal us vs e) in omega (arith, z));
      heavy_rest = omega arith;
      deep_rest = omega arith;
    }
    go m Greater e = record {
      first = λ h. inr (m.first h);
      rest = λ h. elim h [ inl l ↦ inl l | inr r ↦ inr (m.rest r) ];
      heavy_first = (let z = m.heavy_first in omega (arith, z));
      heavy_rest = (let z = m.heavy_rest in omega (arith, z));
      deep_rest = (let z = m.deep_rest in omega (arith, z));
    }

pub right_overflows : (p q : Polynomial) → Overflows q → Overflows (sum_poly p q)
right_overflows zero_poly q h = h
right_overflows (plus c us p) q h = (more_add c us (sum_poly p q)).rest (right_overflows p q h)

pub left_overflows : (p q : Polynomial) → Overflows p → Overflows (sum_poly p q)
left_overflows zero_poly q h = absurd h
left_overflows (plus c us p) q (inl h) = (more_add c us (sum_poly p q)).first h
left_overflows (plus c us p) q (inr h) = (more_add c us (sum_poly p q)).rest (left_overflows p q h)

pub right_weight : (p q : Polynomial) → weight q ≤ weight (sum_poly p q)
right_weight zero_poly q = omega arith
right_weight (plus c us p) q = let a = right_weight p q in let b = (more_add c us (sum_poly p q)).heavy_rest in omega (arith, a, b)

pub right_nesting : (p q : Polynomial) → nesting q ≤ nesting (sum_poly p q)
right_nesting zero_poly q = omega arith
right_nesting (plus c us p) q = let a = right_nesting p q in let b = (more_add c us (sum_poly p q)).deep_rest in omega (arith, a, b)

-- a partial sum exceeds only where the next one does
pub right_large : (p q : Polynomial) → TooLarge q → TooLarge (sum_poly p q)
right_large p q (inl h) = inl (let a = right_weight p q in omega (arith, a, h))
right_large p q (inr h) = inr (let a = right_nesting p q in omega (arith, a, h))
