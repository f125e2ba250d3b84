-- The product that the code of growing products has come to, and the room that it has left.
use Rattle.std.specs.Prelude.{ℕ, ◌+◌, ◌*◌, ◌≤◌, ◌<◌, Option, None, Some}
use Rattle.wh_types.specs.Limits.{coefficient_end, greatest_weight, deepest_value}
use Rattle.wh_poly.specs.Polynomials.{Polynomial, Factors, plus, zero_poly, Ordered}
use Rattle.wh_poly.specs.Arithmetic.{constant, multiply}
use Rattle.wh_poly.specs.Limits.{weight, weight_of_factors, nesting, nesting_of_factors}
use Rattle.wh_poly.specs.Merges.{joined}
use Rattle.wh_poly.specs.Erase.{poly, factors}
use Rattle.wh_poly_arithmetic.specs.declared.growing.Growing.{Growing}
use Rattle.wh_poly.specs.declared.polynomial.Poly.{Poly}

-- how many monomials (ours)
abbrev pub monomial_count : Polynomial → ℕ
monomial_count zero_poly = 0
monomial_count (plus c us p) = 1 + monomial_count p

-- no coefficient is above n (ours)
abbrev pub HasCoefficientsUpTo : ℕ → Polynomial → Type 0
HasCoefficientsUpTo n zero_poly = Unit {0}
HasCoefficientsUpTo n (plus c us p) = c ≤ n × HasCoefficientsUpTo n p

-- the first value (ours)
abbrev pub first_value : Option Poly → Polynomial
first_value None = constant 1
first_value (Some p) = poly p

-- the product so far (ours)
abbrev pub grown : Growing → Polynomial
grown g = multiply (first_value g.first) (plus g.coefficient (joined (factors g.factors)) zero_poly)

-- p times a monomial is within the limits, and stays so while what joins its factors weighs no more than is left (ours)
pub record LeavesRoom (p : Polynomial) (greatest coefficient : ℕ) (us : Factors) (left : ℕ) : Type 0 where
  pub ordered : Ordered p
  pub positive : 1 ≤ coefficient
  pub up_to : HasCoefficientsUpTo greatest p
  pub fitting : greatest * coefficient < coefficient_end
  pub light : weight p + monomial_count p * (weight_of_factors us + left) ≤ greatest_weight
  pub first_shallow : nesting p ≤ deepest_value
  pub shallow : nesting_of_factors us ≤ deepest_value

-- the product is within the limits, and the number `left` says how much more its factors may weigh (ours)
abbrev pub HasRoom : Growing → Type 0
HasRoom g = LeavesRoom (first_value g.first) g.greatest g.coefficient (joined (factors g.factors)) g.left
