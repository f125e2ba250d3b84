-- When weights of variables show that no moves cover a polynomial.
use Rattle.std.specs.Prelude.{ℕ, ◌<◌, ◌≤◌, List, length, Bool, true, false}
use Rattle.wh_poly.specs.Polynomials.{Polynomial}
use Rattle.wh_poly_growth.specs.declared.weights.Weight.{Weight}
use Rattle.wh_poly_growth.specs.Weights.{number}

-- the first is less than the second, or, where it is to be greater, not greater
abbrev pub IsTooSmall : ℕ → ℕ → Bool → Type 0
IsTooSmall m n false = m < n
IsTooSmall m n true = m ≤ n

-- for weights of at most `variables` variables the left polynomial is worth too little (ours)
abbrev pub IsRefuted : ℕ → Polynomial → Polynomial → Bool → Type 0
IsRefuted variables left right strict =
    (ws : List Weight) × (length ws ≤ variables) × IsTooSmall (number ws left) (number ws right) strict
