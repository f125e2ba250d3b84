-- The bits of coefficients, by the numbers of monomials alone.
use Rattle.std.specs.Prelude.{ℕ, zero, suc, ◌+◌, ◌*◌, Bool, false, List, [], ◌∷◌, get_or}
use Rattle.wh_poly_blocking.specs.Bits.{digits}

-- the values of bits, of which those that are missing are false
abbrev pub value_of : List Bool → ℕ → Bool
value_of values x = get_or values x false

-- how many bits there are, where each scope has the given number of monomials
abbrev pub bits_in : List ℕ → ℕ
bits_in [] = 0
bits_in (k ∷ sizes) = 2 * k + bits_in sizes

-- the number of the first bit of the scope with this number
abbrev pub first_of : List ℕ → ℕ → ℕ
first_of [] n = 0
first_of (k ∷ sizes) zero = 0
first_of (k ∷ sizes) (suc n) = 2 * k + first_of sizes n

-- the coefficients that the bits from x on write, a list for each scope
abbrev pub lists_of : (ℕ → Bool) → ℕ → List ℕ → List (List ℕ)
lists_of v x [] = []
lists_of v x (k ∷ sizes) = digits v x k ∷ lists_of v (2 * k + x) sizes
