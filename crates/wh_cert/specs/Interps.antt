-- What a line of an interpretation says, as trees without pointers.
use Rattle.std.specs.Prelude.{ℕ, List}
use Rattle.wh_poly.specs.Polynomials.{Polynomial}

-- a symbol by its name, and the polynomial that it is read as (Fuhs and Kop 2012)
pub record Interp : Type 0 where
  pub name : List ℕ
  pub poly : Polynomial
