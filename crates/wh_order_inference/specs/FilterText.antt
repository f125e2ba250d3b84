-- The text of argument filters (ours). In EBNF, number being "0" or digits without a leading zero:
--
--     filter = "keep " number { " " number } | "pick " number
--
-- Behind `keep` stand the precedence and the places that are kept. `put_.. r` is the spelling with r behind it.
use Rattle.std.specs.Prelude.{ℕ, ◌-◌, ◌≤◌, List, [], ◌∷◌, ◌++◌, All, map, codes}
use Rattle.std.specs.Fmt.{decimal}
use Rattle.wh_types.specs.Limits.{greatest_number}
use Rattle.wh_order_inference.specs.Filters.{Filter, keep, pick}

-- a filter as it is written, with places counted from 1
pub data WrittenFilter : Type 0 where
  keeps : (prec : ℕ) (places : List ℕ) → WrittenFilter
  picks : (place : ℕ) → WrittenFilter

-- the filter with its places counted from 0, where none of them is written 0
abbrev pub filter_of : WrittenFilter → Filter
filter_of (keeps prec places) = keep prec (map (λ n. n - 1) places)
filter_of (picks place) = pick (place - 1)

-- numbers, a space before each
abbrev pub put_places : List ℕ → List ℕ → List ℕ
put_places [] r = r
put_places (n ∷ ns) r = codes " " ++ (decimal n ++ put_places ns r)

abbrev pub put_filter : WrittenFilter → List ℕ → List ℕ
put_filter (keeps prec places) r = codes "keep " ++ (decimal prec ++ put_places places r)
put_filter (picks place) r = codes "pick " ++ (decimal place ++ r)

-- the text of a filter
abbrev pub of_filter : WrittenFilter → List ℕ
of_filter f = put_filter f []

-- each number is at most 65,535
abbrev pub FilterFits : WrittenFilter → Type 0
FilterFits (keeps prec places) = (prec ≤ greatest_number) × All (λ n. n ≤ greatest_number) places
FilterFits (picks place) = place ≤ greatest_number
