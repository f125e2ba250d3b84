-- Single steps of a count of wires and of a sum of numbers.
use Rattle.std.specs.Prelude.{◌≡◌, ℕ, ◌+◌, ◌*◌, Bool, List, nat_lt}
use Rattle.wh_sat_trail.specs.declared.literal.Literal.{Literal}
use Rattle.wh_sat.specs.Solving.{literal_true}
use Rattle.wh_circuit.specs.declared.circuit.Gate.{Gate}
use Rattle.wh_circuit_sums.specs.declared.count.Count.{Count}
use Rattle.wh_circuit_sums.specs.declared.digit.Digit.{Digit}
use Rattle.wh_circuit.specs.Gates.{Agrees, IsWire, Means}
use Rattle.wh_circuit.specs.Values.{bit}

-- whether there is one, and whether there are two or more
pub record Counts (gates : List Gate) (count : Count) (many : (ℕ → Bool) → ℕ) : Type 0 where
  pub some : Means gates count.some (λ v. nat_lt 0 (many v))
  pub more : Means gates count.more (λ v. nat_lt 1 (many v))

-- three bits add up to two
pub record Adds (gates : List Gate) (digit : Digit) (a b c : Literal) : Type 0 where
  pub own_low : IsWire gates digit.low
  pub own_high : IsWire gates digit.high
  pub is : (v : ℕ → Bool) → Agrees gates v → bit (literal_true v digit.low) + 2 * bit (literal_true v digit.high)
      ≡ bit (literal_true v a) + bit (literal_true v b) + bit (literal_true v c)
