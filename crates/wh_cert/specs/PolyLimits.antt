-- The limits of the format on polynomials (ours). No limit says how long lists inside a polynomial may be: none is
-- longer than the text.
use Rattle.std.specs.Prelude.{ℕ, suc, ◌<◌, ◌≤◌}
use Rattle.wh_types.specs.Limits.{greatest_number, deepest_certificate_polynomial, coefficient_end}
use Rattle.wh_poly.specs.Polynomials.{Polynomial, zero_poly, plus, Factors, no_factors, times, Arguments, no_arguments, argument}

-- a coefficient, or an amount that is moved, is at least 1 and at most 2^128 - 1
abbrev pub IsBig : ℕ → Type 0
IsBig n = (1 ≤ n) × (n < coefficient_end)

-- a polynomial inside k open parentheses: each coefficient and each variable's number is within its limits, and 64
-- parentheses are open at most
abbrev mutual
  pub PolyFits : ℕ → Polynomial → Type 0
  PolyFits k zero_poly = Unit {0}
  PolyFits k (plus c us p) = IsBig c × FactorsFit k us × PolyFits k p

  pub FactorsFit : ℕ → Factors → Type 0
  FactorsFit k no_factors = Unit {0}
  FactorsFit k (times x ps us) = (x ≤ greatest_number) × PolysFit k ps × FactorsFit k us

  pub PolysFit : ℕ → Arguments → Type 0
  PolysFit k no_arguments = Unit {0}
  PolysFit k (argument p ps) = (k < deepest_certificate_polynomial) × PolyFits (suc k) p × PolysFit k ps
