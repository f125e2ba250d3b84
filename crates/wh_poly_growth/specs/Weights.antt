-- Valuations that two numbers give for each variable, and the worth of polynomials under them.
use Rattle.std.specs.Prelude.{ℕ, zero, suc, ◌+◌, ◌-◌, ◌*◌, ◌^◌, min, List, [], ◌∷◌}
use Rattle.wh_types.specs.Ty.{Ty, sort, ◌⇒◌}
use Rattle.wh_poly.specs.Polynomials.{Polynomial, zero_poly, plus, Factors, no_factors, times, Arguments, no_arguments, argument}
use Rattle.wh_poly_meaning.specs.Functionals.{Sem, nothing}
use Rattle.wh_poly_meaning.specs.Valuations.{Valuation}
use Rattle.wh_poly_growth.specs.declared.weights.Weight.{Weight}

-- what a value is where all its arguments are 0 (ours)
abbrev pub at_nothing : (A : Ty) → Sem A → ℕ
at_nothing (sort s) n = n
at_nothing (A ⇒ B) f = at_nothing B (f (nothing A))

-- the value that is the constant c and k times the sum of its arguments, each taken where its own arguments are 0
-- (ours)
abbrev pub linear : (A : Ty) → ℕ → ℕ → Sem A
linear (sort s) c k = c
linear (A ⇒ B) c k = λ a. linear B (c + k * at_nothing A a) k

-- the weight of a variable, and 0 for those without one
abbrev pub constant_at : List Weight → ℕ → ℕ
constant_at [] x = 0
constant_at (w ∷ ws) zero = w.constant
constant_at (w ∷ ws) (suc x) = constant_at ws x

abbrev pub factor_at : List Weight → ℕ → ℕ
factor_at [] x = 0
factor_at (w ∷ ws) zero = w.factor
factor_at (w ∷ ws) (suc x) = factor_at ws x

-- the valuation that the weights tell (ours)
abbrev pub valuation_by : List Weight → Valuation
valuation_by ws x A = linear A (constant_at ws x) (factor_at ws x)

abbrev mutual
  -- what a polynomial is worth where variables have these weights (ours)
  pub number : List Weight → Polynomial → ℕ
  number ws zero_poly = 0
  number ws (plus c us p) = c * product ws us + number ws p

  pub product : List Weight → Factors → ℕ
  product ws no_factors = 1
  product ws (times x ps us) = (constant_at ws x + factor_at ws x * sum ws ps) * product ws us

  pub sum : List Weight → Arguments → ℕ
  sum ws no_arguments = 0
  sum ws (argument p ps) = number ws p + sum ws ps

-- a number, or the greatest one of 128 bits where it is more
abbrev pub saturated : ℕ → ℕ
saturated n = min n (2 ^ 128 - 1)
