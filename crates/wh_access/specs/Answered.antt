-- The answers of the walks through rules: the first meta-variable that is not read, or none.
use Rattle.std.specs.Prelude.{ℕ, ◌≡◌, ◌<◌, ◌↔◌, Bool, IsTrue, List, Option, Some, None}
use Rattle.wh_terms.specs.Tree.{Tm}
use Rattle.wh_terms.specs.Typing.{Symbols}
use Rattle.wh_terms.specs.Sight.{Occurs}
use Rattle.wh_terms.specs.Rules.{RewriteRule}
use Rattle.wh_access.specs.Readings.{Place, Reading, way_to}
use Rattle.wh_access.specs.Passing.{AllAccessible, EachUsed}

-- whether the first reading of z has a way of accessible places; None where z is not read
abbrev pub TellsOpen : Symbols → (ℕ → ℕ) → ℕ → List Reading → Option Bool → Type 0
TellsOpen S rank z rs None = way_to z rs ≡ None
TellsOpen S rank z rs (Some b) = (way : List Place) × (way_to z rs ≡ Some way) × (IsTrue b ↔ AllAccessible S rank way)

-- the least meta-variable of the right side of which Q does not hold; None where Q holds of each
abbrev pub IsFirstIn : (Tm → ℕ → Type 0) → RewriteRule → Option ℕ → Type 0
IsFirstIn Q r None = EachUsed Q r
IsFirstIn Q r (Some z) = Occurs z r.right × (Q r.left z → ⊥) × ((y : ℕ) → y < z → Occurs y r.right → Q r.left y)
