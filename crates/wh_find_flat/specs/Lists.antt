-- The coefficients that bits write, by how many each symbol has.
use Rattle.std.specs.Prelude.{ℕ, suc, ◌<◌, ◌≡◌, Bool, List}
use Rattle.wh_poly_blocking.specs.Bits.{digit}
use Rattle.wh_poly_blocking.specs.Sizes.{lists_of, bits_in}
use Rattle.wh_poly_flat.specs.Worth.{coefficient}

-- the lists of all coefficients, numbered as symbols and marked symbols are
abbrev pub lists_for : List ℕ → (ℕ → Bool) → List (List ℕ)
lists_for sizes v = lists_of v 0 sizes

-- there is no such coefficient: it is 0
abbrev pub IsAbsent : List ℕ → ℕ → ℕ → Type 0
IsAbsent sizes n j = (v : ℕ → Bool) → coefficient (lists_for sizes v) n j ≡ 0

-- the coefficient is written by the bit x and the next one
pub record IsWrittenAt (sizes : List ℕ) (n j x : ℕ) : Type 0 where
  pub within : suc x < bits_in sizes
  pub is : (v : ℕ → Bool) → coefficient (lists_for sizes v) n j ≡ digit v x
