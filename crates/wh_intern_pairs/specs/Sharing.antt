-- Pairs of a set that share a left side.
use Rattle.std.specs.Prelude.{ℕ, ◌+◌, ◌≡◌, List, Some, slice_get}
use Rattle.wh_pairs.specs.PairData.{PairData}

-- the pairs at a place of the set and at the next place are of one rule, whose left side is theirs (ours)
pub record ShareAt (pairs : List PairData) (set : List ℕ) (i : ℕ) : Type 0 where
  pub first : ℕ
  pub second : ℕ
  pub left : PairData
  pub right : PairData
  pub here : slice_get set i ≡ Some first
  pub there : slice_get set (i + 1) ≡ Some second
  pub left_is : slice_get pairs first ≡ Some left
  pub right_is : slice_get pairs second ≡ Some right
  pub one : left.rule ≡ right.rule

abbrev pub ShareARule : List PairData → List ℕ → Type 0
ShareARule pairs set = (i : ℕ) × ShareAt pairs set i
