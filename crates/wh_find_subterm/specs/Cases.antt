-- The choices of an argument for the left and for the right symbol of each pair, in order.
use Rattle.std.specs.Prelude.{ℕ, ◌+◌, ◌≡◌, List, [], ◌∷◌, ◌++◌, cond, nat_eq, map, get_or}
use Rattle.std.specs.List.{flat_map, range_with_len}
use Rattle.wh_pairs.specs.PairData.{PairData}
use Rattle.wh_subterm.specs.Relations.{Relates}
use Rattle.wh_find_subterm.specs.declared.rows.Row.{Row}
use Rattle.wh_find_subterm.specs.declared.cases.Case.{Case}
use Rattle.wh_find_subterm.specs.Rows.{row_of}

-- a choice for a pair: two places of arguments, counted from 0, and the variables of the two arguments and of the pair
pub record Spot : Type 0 where
  pub pair : PairData
  pub left_place : ℕ
  pub right_place : ℕ
  pub left : ℕ
  pub right : ℕ
  pub own : ℕ

abbrev pub spot : PairData → Row → Row → ℕ → ℕ → ℕ → Spot
spot a l r own i j = record { pair = a; left_place = i; right_place = j; left = l.first + i; right = r.first + j; own = own }

-- by the right argument, beside a left one
abbrev pub spots_beside : PairData → Row → Row → ℕ → ℕ → List Spot
spots_beside a l r own i = map (λ j. spot a l r own i j) (range_with_len 0 r.need)

-- by the left argument
abbrev pub spots_apart : PairData → Row → Row → ℕ → List Spot
spots_apart a l r own = flat_map (λ i. spots_beside a l r own i) (range_with_len 0 l.need)

-- of one symbol on both sides the same argument is chosen
abbrev pub spots_alike : PairData → Row → ℕ → List Spot
spots_alike a l own = map (λ i. spot a l l own i i) (range_with_len 0 l.need)

abbrev pub spots_of : PairData → Row → Row → ℕ → List Spot
spots_of a l r own = cond (nat_eq a.left_fun a.right_fun) (spots_alike a l own) (spots_apart a l r own)

abbrev pub no_pair : PairData
no_pair = record { rule = 0; metas = []; left_fun = 0; left = []; right_fun = 0; right = []; conditions = [] }

abbrev pub pair_at : List PairData → ℕ → PairData
pair_at pairs n = get_or pairs n no_pair

-- the choices for a set of pairs, whose own variables are the numbers from `own` on
abbrev pub spots : List Row → List PairData → ℕ → List ℕ → List Spot
spots rows pairs own [] = []
spots rows pairs own (n ∷ set) =
    spots_of (pair_at pairs n) (row_of rows (pair_at pairs n).left_fun) (row_of rows (pair_at pairs n).right_fun) own ++ spots rows pairs
    (own + 1) set

-- a choice with what the pair is under it: equal, below or neither
pub record IsCase (s : Spot) (c : Case) : Type 0 where
  pub left : c.left ≡ s.left
  pub right : c.right ≡ s.right
  pub own : c.own ≡ s.own
  pub relates : Relates s.pair s.left_place s.right_place c.relation

-- the cases are those of the spots, one by one
abbrev pub AreCases : List Spot → List Case → Type 0
AreCases [] [] = Unit {0}
AreCases [] (c ∷ cs) = ⊥
AreCases (s ∷ ss) [] = ⊥
AreCases (s ∷ ss) (c ∷ cs) = IsCase s c × AreCases ss cs

-- the cases of some choices join the list
pub record Adds (before after : List Case) (ss : List Spot) : Type 0 where
  pub added : List Case
  pub is : after ≡ before ++ added
  pub are : AreCases ss added
