-- The least number of which something holds.
use Rattle.std.specs.Prelude.{ℕ, ◌≤◌, nat_le, cond, Option, Some, None}

-- the least number of which P holds; None if it holds of no number
abbrev pub LeastOf : (ℕ → Type 0) → Option ℕ → Type 0
LeastOf P None = (n : ℕ) → P n → ⊥
LeastOf P (Some m) = P m × ((n : ℕ) → P n → m ≤ n)

-- the smaller of two numbers, of which none, one or both are there
abbrev pub smaller : Option ℕ → Option ℕ → Option ℕ
smaller (Some m) (Some n) = Some (cond (nat_le m n) m n)
smaller (Some m) None = Some m
smaller None b = b
