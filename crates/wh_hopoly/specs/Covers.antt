-- When one polynomial is at least another by its monomials alone.
use Rattle.std.specs.Prelude.{ℕ, ◌≤◌, ◌≡◌, ◌⊎◌}
use Rattle.wh_poly.specs.Polynomials.{Polynomial, zero_poly, plus, Factors}

-- the polynomial has a monomial with these factors and a coefficient that is at least as great (ours)
abbrev pub Has : Polynomial → ℕ → Factors → Type 0
Has zero_poly d vs = ⊥
Has (plus c us p) d vs = (us ≡ vs × d ≤ c) ⊎ Has p d vs

-- a is at least b if it has such a monomial for each one of b (Fuhs and Kop 2012, absolute positiveness)
abbrev pub AtLeast : Polynomial → Polynomial → Type 0
AtLeast a zero_poly = Unit {0}
AtLeast a (plus d vs q) = Has a d vs × AtLeast a q
