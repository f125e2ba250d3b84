-- A reader of polynomials, byte by byte, as a function: where it stands, and where the next byte leads. It mirrors the
-- code; the laws in proofs/ tie it to the text.
use Rattle.std.specs.Prelude.{ℕ, suc, ◌+◌, ◌-◌, ◌*◌, ◌==◌, ◌&&◌, nat_lt, cond}
use Rattle.wh_types.specs.Limits.{deepest_certificate_polynomial}
use Rattle.wh_text.specs.Chars.{is_digit}
use Rattle.wh_poly.specs.Polynomials.{Polynomial, zero_poly, plus, Factors, no_factors, times, Arguments, no_arguments, argument}
use Rattle.wh_cert_letters.specs.Digits.{goes_on, begins_big, goes_on_big}

-- the open parentheses, the innermost first, each with the finished monomials, coefficient and finished factors of the
-- monomial that it stands in, the number of its variable, and the arguments that have ended
pub data PolyStack : Type 0 where
  outside : PolyStack
  inside : (p : Polynomial) (c : ℕ) (us : Factors) (x : ℕ) (ps : Arguments) (around : PolyStack) → PolyStack

-- what was read since the last open parenthesis: nothing; `0`; monomials and a `+`; monomials, a `+` and digits of a
-- coefficient; a monomial so far and a `*`; a monomial, a `*` and a `y`; a monomial, a `*`, a `y` and digits; a
-- monomial so far that ended with `)`
pub data PolyPlace : Type 0 where
  poly_wanted nought : PolyPlace
  added : (p : Polynomial) → PolyPlace
  coefficient : (p : Polynomial) (c : ℕ) → PolyPlace
  factor_wanted head_wanted : (p : Polynomial) (c : ℕ) (us : Factors) → PolyPlace
  head : (p : Polynomial) (c : ℕ) (us : Factors) (x : ℕ) → PolyPlace
  closed_poly : (p : Polynomial) (c : ℕ) (us : Factors) → PolyPlace

-- where a byte leads: on; out of the polynomial, which ended before the byte that is handed on; nowhere
pub data PolyStep : Type 0 where
  goes : (fs : PolyStack) (k : PolyPlace) → PolyStep
  poly_ended : (p : Polynomial) (b : ℕ) → PolyStep
  no_poly : PolyStep

abbrev pub poly_level : PolyStack → ℕ
poly_level outside = 0
poly_level (inside p c us x ps fs) = suc (poly_level fs)

-- a monomial, a factor, an argument joins at the end
abbrev pub add_monomial : Polynomial → ℕ → Factors → Polynomial
add_monomial zero_poly c us = plus c us zero_poly
add_monomial (plus d vs p) c us = plus d vs (add_monomial p c us)

abbrev pub add_factor : Factors → ℕ → Arguments → Factors
add_factor no_factors x ps = times x ps no_factors
add_factor (times y qs us) x ps = times y qs (add_factor us x ps)

abbrev pub add_argument : Arguments → Polynomial → Arguments
add_argument no_arguments p = argument p no_arguments
add_argument (argument q ps) p = argument q (add_argument ps p)

-- a polynomial has ended before the byte
abbrev pub behind_poly : PolyStack → Polynomial → ℕ → PolyStep
behind_poly outside p b = poly_ended p b
behind_poly (inside q c us x ps fs) p b =
    cond (b == 44) (goes (inside q c us x (add_argument ps p) fs) poly_wanted)
    (cond (b == 41) (goes fs (closed_poly q c (add_factor us x (add_argument ps p)))) no_poly)

-- behind a coefficient or a factor
abbrev pub behind_part : PolyStack → Polynomial → ℕ → Factors → ℕ → PolyStep
behind_part fs p c us b =
    cond (b == 42) (goes fs (factor_wanted p c us))
    (cond (b == 43) (goes fs (added (add_monomial p c us))) (behind_poly fs (add_monomial p c us) b))

-- the first digit of a coefficient
abbrev pub first_coefficient : PolyStack → Polynomial → ℕ → PolyStep
first_coefficient fs p b = cond (begins_big b) (goes fs (coefficient p (b - 48))) no_poly

-- a variable's number has ended before the byte
abbrev pub head_ended : PolyStack → Polynomial → ℕ → Factors → ℕ → ℕ → PolyStep
head_ended fs p c us x b =
    cond ((b == 40) && nat_lt (poly_level fs) deepest_certificate_polynomial) (goes (inside p c us x no_arguments fs) poly_wanted)
    (behind_part fs p c (add_factor us x no_arguments) b)

abbrev pub poly_step : PolyStack → PolyPlace → ℕ → PolyStep
poly_step fs poly_wanted b = cond (b == 48) (goes fs nought) (first_coefficient fs zero_poly b)
poly_step fs nought b = behind_poly fs zero_poly b
poly_step fs (added p) b = first_coefficient fs p b
poly_step fs (coefficient p c) b =
    cond (goes_on_big c b) (goes fs (coefficient p (10 * c + (b - 48)))) (behind_part fs p c no_factors b)
poly_step fs (factor_wanted p c us) b = cond (b == 121) (goes fs (head_wanted p c us)) no_poly
poly_step fs (head_wanted p c us) b = cond (is_digit b) (goes fs (head p c us (b - 48))) no_poly
poly_step fs (head p c us x) b =
    cond (goes_on x b) (goes fs (head p c us (10 * x + (b - 48)))) (head_ended fs p c us x b)
poly_step fs (closed_poly p c us) b = behind_part fs p c us b
