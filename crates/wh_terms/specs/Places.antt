-- Positions in a tree: a path is a list of 0 and 1, and leads to a part.
use Rattle.std.specs.Prelude.{ℕ, zero, suc, ◌+◌, ◌<◌, List, [], ◌∷◌, Option, Some, None, option_and_then, All}
use Rattle.wh_terms.specs.Tree.{Tm, free, lam, app}
use Rattle.wh_terms.specs.Substitution.{opened}

-- a path is a list of 0 and 1
abbrev pub IsPath : List ℕ → Type 0
IsPath path = All (λ d. d < 2) path

-- in an application 0 leads to the function and 1 to the argument; in an abstraction 0 leads to the body
abbrev pub child : ℕ → Tm → Option Tm
child zero (app t u) = Some t
child (suc zero) (app t u) = Some u
child zero (lam a t) = Some t
child _ _ = None

-- the part at a path, as it stands
abbrev pub part_at : List ℕ → Tm → Option Tm
part_at [] t = Some t
part_at (d ∷ path) t = option_and_then (part_at path) (child d t)

-- the part at a path, where each passed abstraction is opened by a free variable of its type, numbered from x on
abbrev pub opened_part_at : ℕ → List ℕ → Tm → Option Tm
opened_part_at x [] t = Some t
opened_part_at x (zero ∷ path) (lam a t) = opened_part_at (x + 1) path (opened (free x a) t)
opened_part_at x (zero ∷ path) (app t u) = opened_part_at x path t
opened_part_at x (suc zero ∷ path) (app t u) = opened_part_at x path u
opened_part_at x (d ∷ path) _ = None
