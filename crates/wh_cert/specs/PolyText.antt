-- The text of polynomials (ours). `put_.. r` is the spelling with r behind it.
use Rattle.std.specs.Prelude.{ℕ, List, ◌++◌, codes}
use Rattle.std.specs.Fmt.{decimal}
use Rattle.wh_poly.specs.Polynomials.{Polynomial, zero_poly, plus, Factors, no_factors, times, Arguments, no_arguments, argument}

-- a polynomial: `0`, or monomials with `+` between them; a monomial is its coefficient, then each factor behind a `*`,
-- a variable's number behind `y` with its arguments in parentheses
abbrev mutual
  pub put_poly : Polynomial → List ℕ → List ℕ
  put_poly zero_poly r = codes "0" ++ r
  put_poly (plus c us p) r = decimal c ++ put_factors us (put_sum p r)

  -- further monomials, a `+` before each
  pub put_sum : Polynomial → List ℕ → List ℕ
  put_sum zero_poly r = r
  put_sum (plus c us p) r = codes "+" ++ (decimal c ++ put_factors us (put_sum p r))

  pub put_factors : Factors → List ℕ → List ℕ
  put_factors no_factors r = r
  put_factors (times x ps us) r = codes "*y" ++ (decimal x ++ put_polys ps (put_factors us r))

  pub put_polys : Arguments → List ℕ → List ℕ
  put_polys no_arguments r = r
  put_polys (argument p ps) r = codes "(" ++ put_poly p (put_more ps r)

  -- further arguments, a comma before each, and the end of the parenthesis
  pub put_more : Arguments → List ℕ → List ℕ
  put_more no_arguments r = codes ")" ++ r
  put_more (argument p ps) r = codes "," ++ put_poly p (put_more ps r)
