-- Sides of pairs by numbers of a table, and what they add to it.
use Rattle.std.specs.Prelude.{ℕ, ◌≡◌, ◌⊎◌, ◌++◌, List, length, map, All, Contains, Some, slice_get}
use Rattle.wh_terms.specs.Tree.{Tm}
use Rattle.wh_pairs.specs.PairData.{PairData}
use Rattle.wh_intern.specs.Trees.{IsPart}
use Rattle.wh_intern.specs.declared.sides.Sides.{Sides}

-- the numbers are those of the trees, in order
abbrev pub AreNumbersOf : List Tm → List ℕ → List Tm → Type 0
AreNumbersOf ts ns us = map (slice_get ts) ns ≡ map (λ u. Some u) us

-- the entry has the heads of the pair, and the numbers of its arguments
pub record AreSidesOf (ts : List Tm) (s : Sides) (p : PairData) : Type 0 where
  pub left_fun : s.left_fun ≡ p.left_fun
  pub left : AreNumbersOf ts s.left p.left
  pub right_fun : s.right_fun ≡ p.right_fun
  pub right : AreNumbersOf ts s.right p.right

-- there is one entry for each pair, in order
pub record AreSides (ts : List Tm) (sides : List Sides) (pairs : List PairData) : Type 0 where
  pub long : length sides ≡ length pairs
  pub each : (k : ℕ) (s : Sides) (p : PairData) → slice_get sides k ≡ Some s → slice_get pairs k ≡ Some p → AreSidesOf ts s p

-- the tree is one of the list, or a part of one
abbrev pub IsPartOfOne : List Tm → Tm → Type 0
IsPartOfOne us s = (u : Tm) × Contains us u × IsPart s u

-- the tree is an argument of a side of one of the pairs, or a part of an argument
abbrev pub IsPartOfSides : List PairData → Tm → Type 0
IsPartOfSides pairs s = (p : PairData) × Contains pairs p × (IsPartOfOne p.left s ⊎ IsPartOfOne p.right s)

-- new is old with more trees behind it, each of which is P: earlier numbers keep their trees
pub record Joins (old new : List Tm) (P : Tm → Type 0) : Type 0 where
  pub parts : List Tm
  pub behind : new ≡ old ++ parts
  pub all : All P parts
