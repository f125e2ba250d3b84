-- How the two sides of a pair stand to one another under a choice of an argument for each.
use Rattle.std.specs.Prelude.{ℕ, ◌≡◌, ◌⊎◌, Some, slice_get}
use Rattle.wh_terms.specs.Tree.{Tm}
use Rattle.wh_pairs.specs.PairData.{PairData}
use Rattle.wh_subterm.specs.ProperParts.{Part}
use Rattle.wh_subterm.specs.declared.relation.Relation.{Relation}
use Rattle.wh_subterm.specs.declared.relation.Relation.TheVariants as is

-- the arguments at two places, counted from 0, are the same tree (Kop 2012)
abbrev pub EqualAt : PairData → ℕ → ℕ → Type 0
EqualAt a i j = (t : Tm) × (slice_get a.left i ≡ Some t) × (slice_get a.right j ≡ Some t)

-- the right one is a proper part of the left one (Kop 2012; the parts are ours)
abbrev pub BelowAt : PairData → ℕ → ℕ → Type 0
BelowAt a i j = (t u : Tm) × (slice_get a.left i ≡ Some t) × (slice_get a.right j ≡ Some u) × Part u t

-- which of the two holds, if any; a pair without such arguments is neither
abbrev pub Relates : PairData → ℕ → ℕ → Relation → Type 0
Relates a i j is.Equal = EqualAt a i j
Relates a i j is.Below = BelowAt a i j
Relates a i j is.Neither = (EqualAt a i j ⊎ BelowAt a i j) → ⊥

-- how the tree u stands to the tree t: it is equal, a proper part, or neither
abbrev pub IsRelation : Tm → Tm → Relation → Type 0
IsRelation t u is.Equal = t ≡ u
IsRelation t u is.Below = Part u t
IsRelation t u is.Neither = ((t ≡ u) ⊎ Part u t) → ⊥
