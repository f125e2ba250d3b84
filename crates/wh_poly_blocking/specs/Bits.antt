-- Coefficients written by bits: two for each, of which the lower one comes first.
use Rattle.std.specs.Prelude.{ℕ, zero, suc, ◌+◌, ◌*◌, Bool, if◌then◌else◌, List, [], ◌∷◌, length}
use Rattle.wh_types.specs.Ty.{Ty}
use Rattle.wh_poly_space.specs.Space.{space_of}

-- how many bits the polynomials of a scope have
abbrev pub bits_of : List Ty → ℕ
bits_of Γ = 2 * length (space_of Γ)

-- the number of the first bit of the scope with this number, where the bits of all scopes are numbered one after
-- another (ours)
abbrev pub first_bit : List (List Ty) → ℕ → ℕ
first_bit [] n = 0
first_bit (Γ ∷ scopes) zero = 0
first_bit (Γ ∷ scopes) (suc n) = bits_of Γ + first_bit scopes n

-- how many bits all scopes have
abbrev pub bit_count : List (List Ty) → ℕ
bit_count scopes = first_bit scopes (length scopes)

-- the number that two bits write
abbrev pub digit : (ℕ → Bool) → ℕ → ℕ
digit v x = (if v x then 1 else 0) + (if v (suc x) then 2 else 0)

-- k numbers, which the bits from x on write
abbrev pub digits : (ℕ → Bool) → ℕ → ℕ → List ℕ
digits v x zero = []
digits v x (suc k) = digit v x ∷ digits v (2 + x) k

-- the coefficients that the bits from x on write, a list for each scope
abbrev pub lists_from : (ℕ → Bool) → ℕ → List (List Ty) → List (List ℕ)
lists_from v x [] = []
lists_from v x (Γ ∷ scopes) = digits v x (length (space_of Γ)) ∷ lists_from v (bits_of Γ + x) scopes

-- the lists of coefficients that all bits write, from the first bit on (ours)
abbrev pub lists_by : (ℕ → Bool) → List (List Ty) → List (List ℕ)
lists_by v scopes = lists_from v 0 scopes
