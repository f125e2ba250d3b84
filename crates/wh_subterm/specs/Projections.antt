-- Projections of marked symbols to arguments, and what they say of a pair.
use Rattle.std.specs.Prelude.{ℕ, ◌+◌, ◌≡◌, ◌⊎◌, Bool, true, false, List, Some, Contains, slice_get}
use Rattle.wh_terms.specs.Tree.{Tm}
use Rattle.wh_pairs.specs.PairData.{PairData}
use Rattle.wh_subterm.specs.ProperParts.{Part}

-- a choice: for a marked symbol the number of one of its arguments, counted from 1
pub record Chosen : Type 0 where
  pub symbol : ℕ
  pub argument : ℕ

-- `IsProjected args f ts t`: t is the argument among ts that is chosen for f
abbrev pub IsProjected : List Chosen → ℕ → List Tm → Tm → Type 0
IsProjected args f ts t = (i : ℕ) × Contains args (record { symbol = f; argument = i + 1 }) × (slice_get ts i ≡ Some t)

-- a pair is equal if its projected sides are the same tree (Kop 2012)
abbrev pub Equal : List Chosen → PairData → Type 0
Equal args a = (t : Tm) × IsProjected args a.left_fun a.left t × IsProjected args a.right_fun a.right t

-- a pair is below if its projected right side is a proper part of its projected left side (Kop 2012; the parts are
-- ours)
abbrev pub Below : List Chosen → PairData → Type 0
Below args a = (t u : Tm) × IsProjected args a.left_fun a.left t × IsProjected args a.right_fun a.right u × Part u t

-- what a projection asks of a pair of the set, where it is dropped and where it is not
abbrev pub Decreasing : List Chosen → Bool → PairData → Type 0
Decreasing args true a = Below args a
Decreasing args false a = Equal args a ⊎ Below args a
