-- The literals of a blocked clause: those that are false under the guess.
use Rattle.std.specs.Prelude.{ℕ, zero, suc, ◌-◌, Bool, not, List, [], ◌∷◌, get_or}
use Rattle.wh_sat_trail.specs.declared.literal.Literal.{Literal}

-- the literal on the bit that is false
abbrev pub false_literal : (ℕ → Bool) → ℕ → Literal
false_literal v x = record { variable = x; positive = not (v x) }

-- the literals on k bits from x on that are false under v
abbrev pub literals_from : (ℕ → Bool) → ℕ → ℕ → List Literal
literals_from v x zero = []
literals_from v x (suc k) = false_literal v x ∷ literals_from v (suc x) k

-- the literals on the bits of the symbol with number n that are false under v; the list has the first bit of each
-- symbol
abbrev pub literals_on : (ℕ → Bool) → List ℕ → ℕ → List Literal
literals_on v firsts n = literals_from v (get_or firsts n 0) (get_or firsts (suc n) 0 - get_or firsts n 0)
