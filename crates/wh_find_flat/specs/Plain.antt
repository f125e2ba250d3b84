-- Trees of symbols, of meta-variables without arguments and of applications.
use Rattle.std.specs.Prelude.{ℕ, zero, suc, ◌+◌, ◌≤◌, ◌==◌, ◌||◌, Bool, false, if◌then◌else◌}
use Rattle.wh_poly_flat.specs.Flat.{occurrences}
use Rattle.wh_terms.specs.Tree.{Tm, fun, meta, app, none}

-- nothing else stands in the tree
abbrev pub IsPlain : Tm → Type 0
IsPlain (fun f) = Unit {0}
IsPlain (meta z none) = Unit {0}
IsPlain (app t u) = IsPlain t × IsPlain u
IsPlain _ = ⊥

-- two sides are plain, and not large
pub record ArePlainSides (left right : Tm) : Type 0 where
  pub left_plain : IsPlain left
  pub right_plain : IsPlain right
  pub left_few : occurrences left ≤ 60
  pub right_few : occurrences right ≤ 60

-- whether the meta-variable stands in a plain tree
abbrev pub stands_in : ℕ → Tm → Bool
stands_in z (meta y ts) = y == z
stands_in z (app t u) = stands_in z t || stands_in z u
stands_in z _ = false

-- how many of the first meta-variables stand in the tree
abbrev pub standing : ℕ → Tm → ℕ
standing zero t = 0
standing (suc z) t = (if stands_in z t then 1 else 0) + standing z t
