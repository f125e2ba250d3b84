-- Sums of products with coefficients, of which the lowest bits are kept.
use Rattle.std.specs.Prelude.{ℕ, ◌+◌, ◌*◌, ◌<◌, ◌≤◌, ◌^◌, ◌≡◌, Bool, List, Option, Some, None, length}
use Rattle.wh_sat_trail.specs.declared.literal.Literal.{Literal}
use Rattle.wh_circuit.specs.declared.circuit.Gate.{Gate}
use Rattle.wh_circuit.specs.Gates.{Agrees, AreWires}
use Rattle.wh_circuit.specs.Values.{number_of}
use Rattle.wh_poly_blocking.specs.Bits.{digit}

-- the coefficient that the bit and the next one write; one without bits is 0
abbrev pub digit_by : Option ℕ → (ℕ → Bool) → ℕ
digit_by None v = 0
digit_by (Some x) v = digit v x

-- where the sum of the first number and of the product fits the bits, they are those of it
pub record IsProduct (gates : List Gate) (first : Option ℕ) (sum number : List Literal) (width : ℕ) (made : List Literal) : Type 0 where
  pub own : AreWires gates made
  pub narrow : length made ≤ width
  pub is : (v : ℕ → Bool) → Agrees gates v → number_of v sum + digit_by first v * number_of v number < 2 ^ width
      → number_of v made ≡ number_of v sum + digit_by first v * number_of v number
