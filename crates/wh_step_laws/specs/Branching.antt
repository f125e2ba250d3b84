-- Finite branching: lists of all that a relation leads to from one thing.
use Rattle.std.specs.Prelude.{List, Contains}

-- the list has exactly what R leads to from a
pub record ListsAll {A : Type 0} (R : A → A → Type 0) (a : A) (l : List A) : Type 0 where
  pub all : (b : A) → R a b → Contains l b
  pub only : (b : A) → Contains l b → R a b
