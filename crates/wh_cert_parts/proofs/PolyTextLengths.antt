-- The text of a polynomial is at least as long as each list that it spells.
use Rattle.std.proofs.Common.{ℕ, suc, ◌+◌, ◌≤◌, List, ◌++◌, length, arith}
use Rattle.std.specs.Fmt.{decimal}
use Rattle.std.proofs.lemmas.List.{length-append}
use Rattle.wh_poly.specs.Polynomials.{Polynomial, zero_poly, plus, Factors, no_factors, times, Arguments, no_arguments, argument}
use Rattle.wh_cert.specs.PolyText.{put_poly, put_sum, put_factors, put_polys, put_more}
use Rattle.wh_cert.specs.PolyCounts.{monomial_count, atom_count, argument_count, MonomialsWithin, AtomsWithin, ArgumentsWithin}

-- what stands behind
pub behind : (xs r : List ℕ) → length r ≤ length (xs ++ r)
behind xs r = omega (arith, length-append xs r)

-- what stands behind the text of a part, and an entry of its list for each byte before that
mutual
  pub behind_poly : (p : Polynomial) (r : List ℕ) → length r ≤ length (put_poly p r)
  behind_poly zero_poly r = omega arith
  behind_poly (plus c us p) r =
      omega (arith, behind (decimal c) (put_factors us (put_sum p r)), long_factors us (put_sum p r), long_sum p r)

  long_sum : (p : Polynomial) (r : List ℕ) → monomial_count p + length r ≤ length (put_sum p r)
  long_sum zero_poly r = omega arith
  long_sum (plus c us p) r =
      omega (arith, behind (decimal c) (put_factors us (put_sum p r)), long_factors us (put_sum p r), long_sum p r)

  long_factors : (us : Factors) (r : List ℕ) → atom_count us + length r ≤ length (put_factors us r)
  long_factors no_factors r = omega arith
  long_factors (times x ps us) r =
      omega (arith, behind (decimal x) (put_polys ps (put_factors us r)), long_polys ps (put_factors us r), long_factors us r)

  long_polys : (ps : Arguments) (r : List ℕ) → argument_count ps + length r ≤ length (put_polys ps r)
  long_polys no_arguments r = omega arith
  long_polys (argument p ps) r = omega (arith, behind_poly p (put_more ps r), long_more ps r)

  long_more : (ps : Arguments) (r : List ℕ) → argument_count ps + suc (length r) ≤ length (put_more ps r)
  long_more no_arguments r = omega arith
  long_more (argument p ps) r = omega (arith, behind_poly p (put_more ps r), long_more ps r)

pub long_poly : (p : Polynomial) (r : List ℕ) → monomial_count p + length r ≤ suc (length (put_poly p r))
long_poly zero_poly r = omega arith
long_poly (plus c us p) r =
    omega (arith, behind (decimal c) (put_factors us (put_sum p r)), long_factors us (put_sum p r), long_sum p r)

-- a text of at most n bytes spells lists of at most n entries
mutual
  pub poly_within : (n : ℕ) (p : Polynomial) (r : List ℕ) → length (put_poly p r) ≤ n → MonomialsWithin n p
  poly_within n zero_poly r le = tt
  poly_within n (plus c us p) r le =
      let rest = put_sum p r in
      let short : length (put_factors us rest) ≤ n = omega (arith, le, behind (decimal c) (put_factors us rest)) in
      let long = long_factors us rest in
      (omega (arith, short, long), factors_within n us rest short, sum_within n p r (omega (arith, short, long)))

  sum_within : (n : ℕ) (p : Polynomial) (r : List ℕ) → length (put_sum p r) ≤ n → MonomialsWithin n p
  sum_within n zero_poly r le = tt
  sum_within n (plus c us p) r le =
      let rest = put_sum p r in
      let short : length (put_factors us rest) ≤ n = omega (arith, le, behind (decimal c) (put_factors us rest)) in
      let long = long_factors us rest in
      (omega (arith, short, long), factors_within n us rest short, sum_within n p r (omega (arith, short, long)))

  factors_within : (n : ℕ) (us : Factors) (r : List ℕ) → length (put_factors us r) ≤ n → AtomsWithin n us
  factors_within n no_factors r le = tt
  factors_within n (times x ps us) r le =
      let rest = put_factors us r in
      let short : length (put_polys ps rest) ≤ n = omega (arith, le, behind (decimal x) (put_polys ps rest)) in
      let long = long_polys ps rest in
      (omega (arith, short, long), polys_within n ps rest short, factors_within n us r (omega (arith, short, long)))

  polys_within : (n : ℕ) (ps : Arguments) (r : List ℕ) → length (put_polys ps r) ≤ n → ArgumentsWithin n ps
  polys_within n no_arguments r le = tt
  polys_within n (argument p ps) r le =
      let rest = put_more ps r in
      let short : length (put_poly p rest) ≤ n = omega (arith, le) in
      (omega (arith, short, long_poly p rest, long_more ps r), poly_within n p rest short, more_within n ps r (omega (arith, short, behind_poly p rest)))

  more_within : (n : ℕ) (ps : Arguments) (r : List ℕ) → length (put_more ps r) ≤ n → ArgumentsWithin n ps
  more_within n no_arguments r le = tt
  more_within n (argument p ps) r le =
      let rest = put_more ps r in
      let short : length (put_poly p rest) ≤ n = omega (arith, le) in
      (omega (arith, short, long_poly p rest, long_more ps r), poly_within n p rest short, more_within n ps r (omega (arith, short, behind_poly p rest)))
