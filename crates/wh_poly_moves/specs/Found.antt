-- Lists of moves that cover one polynomial by another, and that there are none.
use Rattle.std.specs.Prelude.{ℕ, ◌≡◌, ◌≤◌, ◌^◌, List, length, Some, All, slice_get}
use Rattle.wh_poly.specs.Polynomials.{Polynomial}
use Rattle.wh_hopoly.specs.Moves.{Transfer, IsCover, IsStrictCover}

-- no moves show that the left polynomial is at least the right one
abbrev pub NoneCovers : Polynomial → Polynomial → Type 0
NoneCovers left right = (ms : List Transfer) → IsCover left right ms → ⊥

-- no two moves are between the same two monomials
abbrev pub AreApart : List Transfer → Type 0
AreApart ms = (i j : ℕ) (m n : Transfer) → slice_get ms i ≡ Some m → slice_get ms j ≡ Some n → m.from ≡ n.from → m.to ≡ n.to → i ≡ j

-- the moves cover, strictly where any moves do; each takes a unit at least, and no two are between the same monomials
-- (ours)
pub record AreCovering (left right : Polynomial) (ms : List Transfer) : Type 0 where
  pub cover : IsCover left right ms
  pub strict : (other : List Transfer) → IsStrictCover left right other → IsStrictCover left right ms
  pub positive : All (λ m. 1 ≤ m.amount) ms
  pub apart : AreApart ms
  pub few : length ms ≤ 2 ^ 32
