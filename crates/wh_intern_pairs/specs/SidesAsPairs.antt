-- Numbered sides as pairs: what the tests of a projection look at.
use Rattle.std.specs.Prelude.{ℕ, ◌+◌, ◌<◌, ◌≡◌, List, [], length, map, All, Contains, Some, slice_get}
use Rattle.wh_terms.specs.Tree.{Tm}
use Rattle.wh_pairs.specs.PairData.{PairData}
use Rattle.wh_subterm.specs.Projections.{Chosen}
use Rattle.wh_intern.specs.Trees.{tree_at}
use Rattle.wh_intern.specs.declared.sides.Sides.{Sides}

-- the heads of an entry, as those of a pair without arguments
abbrev pub heads_of : Sides → PairData
heads_of s = record {
  rule = 0;
  metas = [];
  left_fun = s.left_fun;
  left = [];
  right_fun = s.right_fun;
  right = [];
  conditions = [];
}

-- the sides of an entry, as those of a pair
abbrev pub as_pair : List Tm → Sides → PairData
as_pair ts s = record {
  rule = 0;
  metas = [];
  left_fun = s.left_fun;
  left = map (tree_at ts) s.left;
  right_fun = s.right_fun;
  right = map (tree_at ts) s.right;
  conditions = [];
}

-- the numbers of the entry are those of trees of the list
pub record AreNumbersIn (ts : List Tm) (s : Sides) : Type 0 where
  pub left : All (λ n. n < length ts) s.left
  pub right : All (λ n. n < length ts) s.right

-- `IsChosenNumber args f ns n`: n is the number among ns that is chosen for f
abbrev pub IsChosenNumber : List Chosen → ℕ → List ℕ → ℕ → Type 0
IsChosenNumber args f ns n = (i : ℕ) × Contains args (record { symbol = f; argument = i + 1 }) × (slice_get ns i ≡ Some n)
