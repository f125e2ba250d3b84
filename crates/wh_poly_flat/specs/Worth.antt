-- What flat sides are worth: linear in the weights of their meta-variables.
use Rattle.std.specs.Prelude.{ℕ, suc, ◌+◌, ◌*◌, ◌≤◌, ◌<◌, ◌==◌, if◌then◌else◌, List, [], get_or}
use Rattle.wh_terms.specs.Tree.{Tm, fun, meta, app}
use Rattle.wh_poly_space.specs.Coefficients.{capped}

-- the symbol that heads the spine, or 0 where none does
abbrev pub symbol_in : Tm → ℕ
symbol_in (fun f) = f
symbol_in (app t u) = symbol_in t
symbol_in _ = 0

-- how many arguments stand behind it
abbrev pub places_in : Tm → ℕ
places_in (app t u) = suc (places_in t)
places_in _ = 0

-- a coefficient of the list with the number n: the constant is number 0, that of argument i is number i + 1
abbrev pub coefficient : List (List ℕ) → ℕ → ℕ → ℕ
coefficient lists n j = capped (get_or (get_or lists n []) j 0)

-- what the tree is worth where each symbol is linear with these coefficients: `one` stands for the number 1, and `at`
-- gives what the meta-variables are worth. So the constant of a side is its worth for 1 and meta-variables that are
-- worth 0, and the coefficient of a meta-variable is its worth for 0 where this one alone is worth 1 (ours)
abbrev pub worth : List (List ℕ) → ℕ → (ℕ → ℕ) → Tm → ℕ
worth lists one at (fun f) = coefficient lists f 0 * one
worth lists one at (meta z ts) = at z
worth lists one at (app t u) = worth lists one at t + coefficient lists (symbol_in t) (suc (places_in t)) * worth lists one at u
worth lists one at _ = 0

-- all meta-variables are worth 0; one is worth 1 and the others 0
abbrev pub nothing : ℕ → ℕ
nothing x = 0

abbrev pub only : ℕ → ℕ → ℕ
only z x = if x == z then 1 else 0

-- the constant of a side, and the coefficient of a meta-variable
abbrev pub constant_of : List (List ℕ) → Tm → ℕ
constant_of lists t = worth lists 1 nothing t

abbrev pub factor_of : List (List ℕ) → ℕ → Tm → ℕ
factor_of lists z t = worth lists 0 (only z) t

-- the constant of the first side, and each of its coefficients, is at least that of the second one (ours)
pub record IsAtLeast (lists : List (List ℕ)) (left right : Tm) : Type 0 where
  pub constant : constant_of lists right ≤ constant_of lists left
  pub each : (z : ℕ) → factor_of lists z right ≤ factor_of lists z left

-- the constant of the first side is greater than that of the second one
abbrev pub IsGreater : List (List ℕ) → Tm → Tm → Type 0
IsGreater lists left right = constant_of lists right < constant_of lists left
