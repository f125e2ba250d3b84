-- Sums, products and renumbering of polynomials, by insertion and with no limit.
use Rattle.std.specs.Prelude.{ℕ, ◌+◌, ◌*◌, nat_lt, if◌then◌else◌}
use Rattle.std.specs.declared.cmp.Ordering.{Ordering}
use Rattle.std.specs.declared.cmp.Ordering.TheVariants.{Less, Equal, Greater}
use Rattle.wh_poly.specs.Polynomials.{Polynomial, zero_poly, plus, Factors, no_factors, times, Arguments, no_arguments, argument, compare_factors, compare_factor}

-- the first, second or third, by an order (ours)
abbrev pub by_order : {A : Type 0} → Ordering → A → A → A → A
by_order Less a b c = a
by_order Equal a b c = b
by_order Greater a b c = c

-- a monomial joins a polynomial at its place; equal lists of factors add their coefficients (ours)
abbrev pub add_monomial : ℕ → Factors → Polynomial → Polynomial
add_monomial c us zero_poly = plus c us zero_poly
add_monomial c us (plus d vs q) =
    by_order (compare_factors us vs) (plus c us (plus d vs q)) (plus (c + d) vs q) (plus d vs (add_monomial c us q))

-- the sum of two polynomials (Fuhs and Kop 2012)
abbrev pub sum_poly : Polynomial → Polynomial → Polynomial
sum_poly zero_poly q = q
sum_poly (plus c us p) q = add_monomial c us (sum_poly p q)

-- a factor joins a list of factors at its place (ours)
abbrev pub join_factor : ℕ → Arguments → Factors → Factors
join_factor x ps no_factors = times x ps no_factors
join_factor x ps (times y qs vs) =
    by_order (compare_factor x ps y qs) (times x ps (times y qs vs)) (times x ps (times y qs vs)) (times y qs (join_factor x ps vs))

-- the factors of two lists in order (ours)
abbrev pub join_factors : Factors → Factors → Factors
join_factors no_factors vs = vs
join_factors (times x ps us) vs = join_factor x ps (join_factors us vs)

-- a monomial times a polynomial (Fuhs and Kop 2012)
abbrev pub scale : ℕ → Factors → Polynomial → Polynomial
scale c us zero_poly = zero_poly
scale c us (plus d vs q) = add_monomial (c * d) (join_factors us vs) (scale c us q)

-- the product of two polynomials; a product with 0 is 0 (Fuhs and Kop 2012)
abbrev pub multiply : Polynomial → Polynomial → Polynomial
multiply zero_poly q = zero_poly
multiply (plus c us p) q = sum_poly (scale c us q) (multiply p q)

abbrev mutual
  -- each variable gets the number that r gives it (ours)
  pub renumber : (ℕ → ℕ) → Polynomial → Polynomial
  renumber r zero_poly = zero_poly
  renumber r (plus c us p) = plus c (renumber_factors r us) (renumber r p)

  pub renumber_factors : (ℕ → ℕ) → Factors → Factors
  renumber_factors r no_factors = no_factors
  renumber_factors r (times x ps us) = times (r x) (renumber_arguments r ps) (renumber_factors r us)

  pub renumber_arguments : (ℕ → ℕ) → Arguments → Arguments
  renumber_arguments r no_arguments = no_arguments
  renumber_arguments r (argument p ps) = argument (renumber r p) (renumber_arguments r ps)

-- the numbers from `from` on are raised (ours)
abbrev pub raised : ℕ → ℕ → ℕ → ℕ
raised from by i = if nat_lt i from then i else i + by

-- a number as a polynomial (ours)
abbrev pub constant : ℕ → Polynomial
constant c = plus c no_factors zero_poly

-- a variable with arguments as a polynomial (ours)
abbrev pub atom : ℕ → Arguments → Polynomial
atom x ps = plus 1 (times x ps no_factors) zero_poly

-- the monomials of one polynomial, and then those of another (ours)
abbrev pub followed_by : Polynomial → Polynomial → Polynomial
followed_by zero_poly q = q
followed_by (plus c us p) q = plus c us (followed_by p q)
