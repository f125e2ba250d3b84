-- Linear polynomials that are within the limits.
use Rattle.std.proofs.Common.{◌≡◌, ℕ, ◌<◌, ◌≤◌, ◌^◌, inl, inr, refl, arith}
use Rattle.wh_poly.specs.Polynomials.{Polynomial, zero_poly, plus, no_factors, times, no_arguments, argument}
use Rattle.wh_poly.specs.Limits.{weight, nesting, Overflows, Exceeds}
use Rattle.wh_poly_flat.proofs.Totals.{IsLinear, total, spread}

abbrev pub each_one : ℕ → ℕ
each_one x = 1

abbrev pub each_two : ℕ → ℕ
each_two x = 2

-- a linear polynomial with small coefficients and few monomials
pub record IsLight (p : Polynomial) : Type 0 where
  pub scope : ℕ
  pub linear : IsLinear scope p
  pub small : total 1 each_one p < 2 ^ 128
  pub few : spread 1 each_two p ≤ 65536

no_overflow : (n : ℕ) (p : Polynomial) → IsLinear n p → total 1 each_one p < 2 ^ 128 → Overflows p → ⊥
no_overflow n zero_poly l h o = o
no_overflow n (plus c no_factors p) l h (inl o) = omega (arith, h, o)
no_overflow n (plus c no_factors p) l h (inr o) = no_overflow n p l.1 (omega (arith, h)) o
no_overflow n (plus c (times x no_arguments no_factors) p) l h (inl o) = omega (arith, h, o)
no_overflow n (plus c (times x no_arguments no_factors) p) l h (inr o) = no_overflow n p l.1 (omega (arith, h)) o
no_overflow n (plus c (times x no_arguments (times y qs vs)) p) l h o = absurd l.0
no_overflow n (plus c (times x (argument q qs) us) p) l h o = absurd l.0

weight_is : (n : ℕ) (p : Polynomial) → IsLinear n p → weight p ≡ spread 1 each_two p
weight_is n zero_poly l = refl
weight_is n (plus c no_factors p) l = let e = weight_is n p l.1 in omega (arith, e)
weight_is n (plus c (times x no_arguments no_factors) p) l = let e = weight_is n p l.1 in omega (arith, e)
weight_is n (plus c (times x no_arguments (times y qs vs)) p) l = absurd l.0
weight_is n (plus c (times x (argument q qs) us) p) l = absurd l.0

shallow : (n : ℕ) (p : Polynomial) → IsLinear n p → nesting p ≡ 0
shallow n zero_poly l = refl
shallow n (plus c no_factors p) l = let e = shallow n p l.1 in omega (arith, e)
shallow n (plus c (times x no_arguments no_factors) p) l = let e = shallow n p l.1 in omega (arith, e)
shallow n (plus c (times x no_arguments (times y qs vs)) p) l = absurd l.0
shallow n (plus c (times x (argument q qs) us) p) l = absurd l.0

pub light_fits : (p : Polynomial) → IsLight p → Exceeds p → ⊥
light_fits p l (inl o) = no_overflow l.scope p l.linear l.small o
light_fits p l (inr (inl h)) = let e = weight_is l.scope p l.linear in let f = l.few in omega (arith, e, f, h)
light_fits p l (inr (inr h)) = let e = shallow l.scope p l.linear in omega (arith, e, h)
