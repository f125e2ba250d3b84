-- The coefficients of polynomials that are tried, in the order of the monomials of their spaces.
use Rattle.std.specs.Prelude.{ℕ, ◌≤◌, ◌≡◌, ◌↔◌, nat_lt, if◌then◌else◌, List, Some, get_or, slice_get}
use Rattle.wh_types.specs.Ty.{Ty}
use Rattle.wh_poly.specs.Polynomials.{Polynomial, Factors}
use Rattle.wh_poly_space.specs.Space.{IsOfSpace, HasMonomial, space_of}

-- a number, and 3 in place of a greater one
abbrev pub capped : ℕ → ℕ
capped c = if nat_lt 3 c then 3 else c

-- the polynomial is one of those that are tried, and has these coefficients, one for each monomial of the space in
-- order; those that are missing are 0, and greater ones than 3 are 3 (ours)
pub record HasCoefficients (Γ : List Ty) (cs : List ℕ) (p : Polynomial) : Type 0 where
  pub of_space : IsOfSpace Γ p
  pub each : (j c : ℕ) (us : Factors) → slice_get (space_of Γ) j ≡ Some us → HasMonomial p c us ↔ ((c ≡ capped (get_or cs j 0)) × (1 ≤ c))
