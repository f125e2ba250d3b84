-- Dependency pairs as data, without pointers.
use Rattle.std.specs.Prelude.{ℕ, ◌<◌, List, [], ◌∷◌, map}
use Rattle.wh_terms.specs.Tree.{Tm}
use Rattle.wh_terms.specs.Typing.{Declared}
use Rattle.wh_terms.specs.Erase.{declared_metas, tm}
use Rattle.wh_pairs.specs.declared.pair.Condition as code
use Rattle.wh_pairs.specs.declared.pair.Pair as pair

-- a condition: the call stands within that argument of the meta-variable, the place counted from 1 (Fuhs and Kop 2019)
pub record Within : Type 0 where
  pub meta : ℕ
  pub place : ℕ

-- a dependency pair: the left side `left_fun left` leads to the call `right_fun right` (Kop 2012; Fuhs and Kop 2019)
pub record PairData : Type 0 where
  pub rule : ℕ
  pub metas : List Declared
  pub left_fun : ℕ
  pub left : List Tm
  pub right_fun : ℕ
  pub right : List Tm
  pub conditions : List Within

abbrev pub within : code.Condition → Within
within c = record { meta = c.meta; place = c.place }

-- what a `Pair` stands for
abbrev pub pair_data : pair.Pair → PairData
pair_data p = record {
  rule = p.rule;
  metas = declared_metas p.metas;
  left_fun = p.left_fun;
  left = map tm p.left.value;
  right_fun = p.right_fun;
  right = map tm p.right;
  conditions = map within p.conditions;
}

-- each number is below all that come behind it
abbrev pub IsIncreasing : List ℕ → Type 0
IsIncreasing [] = Unit {0}
IsIncreasing (n ∷ []) = Unit {0}
IsIncreasing (m ∷ n ∷ rest) = (m < n) × IsIncreasing (n ∷ rest)
