-- The limits on values: coefficients of 128 bits, a weight of 65,536, and arguments nested 400 deep.
use Rattle.std.specs.Prelude.{ℕ, ◌+◌, ◌≤◌, ◌<◌, ◌⊎◌, max}
use Rattle.wh_types.specs.Limits.{coefficient_end, greatest_weight, deepest_value}
use Rattle.wh_poly.specs.Polynomials.{Polynomial, zero_poly, plus, Factors, no_factors, times, Arguments, no_arguments, argument}

abbrev mutual
  -- the weight counts each monomial, each factor, and the weights of its arguments (ours)
  pub weight : Polynomial → ℕ
  weight zero_poly = 0
  weight (plus c us p) = (1 + weight_of_factors us) + weight p

  pub weight_of_factors : Factors → ℕ
  weight_of_factors no_factors = 0
  weight_of_factors (times x ps us) = (1 + weight_of_arguments ps) + weight_of_factors us

  pub weight_of_arguments : Arguments → ℕ
  weight_of_arguments no_arguments = 0
  weight_of_arguments (argument p ps) = weight p + weight_of_arguments ps

abbrev mutual
  -- how deep arguments nest (ours)
  pub nesting : Polynomial → ℕ
  nesting zero_poly = 0
  nesting (plus c us p) = max (nesting_of_factors us) (nesting p)

  pub nesting_of_factors : Factors → ℕ
  nesting_of_factors no_factors = 0
  nesting_of_factors (times x ps us) = max (nesting_of_arguments ps) (nesting_of_factors us)

  pub nesting_of_arguments : Arguments → ℕ
  nesting_of_arguments no_arguments = 0
  nesting_of_arguments (argument p ps) = max (1 + nesting p) (nesting_of_arguments ps)

-- a coefficient is above 2^128 - 1 (ours)
abbrev pub Overflows : Polynomial → Type 0
Overflows zero_poly = ⊥
Overflows (plus c us p) = (coefficient_end ≤ c) ⊎ Overflows p

-- the weight is above 65,536, or the arguments nest more than 400 deep (ours)
abbrev pub TooLarge : Polynomial → Type 0
TooLarge p = (greatest_weight < weight p) ⊎ (deepest_value < nesting p)

-- the value exceeds a limit (ours)
abbrev pub Exceeds : Polynomial → Type 0
Exceeds w = Overflows w ⊎ TooLarge w
