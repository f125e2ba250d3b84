-- The argument filters of a node of a proof: one for each symbol, and one for each of some marked symbols. As in the
-- whole of path orders the marked symbol of f has a number of its own, which is that of f counted on behind all
-- symbols.
use Rattle.std.specs.Prelude.{ℕ, zero, suc, ◌-◌, ◌==◌, ◌<◌, ◌≡◌, nat_lt, cond, List, [], ◌∷◌, ◌++◌, length, map, All, Some, slice_get}
use Rattle.wh_types.specs.Ty.{Ty, arguments}
use Rattle.wh_terms.specs.Typing.{Symbols}
use Rattle.wh_terms.specs.Rules.{RewriteRule}
use Rattle.wh_pairs.specs.Marked.{AreMarked}
use Rattle.wh_reduction_pairs.specs.TaskData.{TaskData, numbers_from}
use Rattle.wh_polycheck.specs.Marks.{marked_types}
use Rattle.wh_order_inference.specs.Filters.{Filter, keep}
use Rattle.wh_order_inference.specs.FilterText.{WrittenFilter, keeps, picks, filter_of}
use Rattle.wh_order_extended.specs.Filtered.{IsProper, filtered_symbols, precedences}

-- a marked symbol, by the number of its symbol, and its filter
pub record MarkFilter : Type 0 where
  pub symbol : ℕ
  pub filter : WrittenFilter

-- the filters of the symbols, in the order of their numbers, and those of marked symbols (Kop 2012)
pub record FilteringData : Type 0 where
  pub symbols : List WrittenFilter
  pub marks : List MarkFilter

-- where no filter is given, no argument is kept (ours)
abbrev pub unfiltered : Filter
unfiltered = keep 0 []

-- the filter of the symbol f
abbrev pub filter_among : List WrittenFilter → ℕ → Filter
filter_among [] f = unfiltered
filter_among (w ∷ ws) zero = filter_of w
filter_among (w ∷ ws) (suc f) = filter_among ws f

-- the filter of the marked symbol of f
abbrev pub mark_among : List MarkFilter → ℕ → Filter
mark_among [] f = unfiltered
mark_among (m ∷ ms) f = cond (m.symbol == f) (filter_of m.filter) (mark_among ms f)

-- the filter of each symbol by its number, and of each marked symbol by its number behind all symbols
abbrev pub filters_of : Symbols → FilteringData → ℕ → Filter
filters_of S D n = cond (nat_lt n (length S.funs)) (filter_among D.symbols n) (mark_among D.marks (n - length S.funs))

-- the precedence of each symbol, and of each marked one (Kop 2012)
abbrev pub precedences_of : Symbols → FilteringData → ℕ → ℕ
precedences_of S D = precedences (filters_of S D)

-- the types of the arguments of each symbol, and behind these of those of each marked symbol
abbrev pub argument_types : Symbols → List RewriteRule → List (List Ty)
argument_types S rules = map arguments S.funs ++ map (marked_types S rules) (numbers_from 0 (length S.funs))

-- the signature of filtered trees: each symbol and each marked symbol with the arguments that its filter keeps, over
-- one sort (Kop 2012)
abbrev pub filtered_signature : Symbols → List RewriteRule → FilteringData → Symbols
filtered_signature S rules D = filtered_symbols (filters_of S D) (argument_types S rules)

-- each place is counted from 1
abbrev pub HasPlaces : WrittenFilter → Type 0
HasPlaces (keeps prec places) = All (λ n. 0 < n) places
HasPlaces (picks place) = 0 < place

-- the filter as it is written is proper for a symbol with arguments of these types (Kop 2012)
pub record IsProperAsWritten (cs : List Ty) (w : WrittenFilter) : Type 0 where
  pub counted : HasPlaces w
  pub proper : IsProper cs (filter_of w)

-- there is a filter for each symbol of the system and for each marked symbol of the set, in order
pub record AreFiltersFor (T : TaskData) (D : FilteringData) : Type 0 where
  pub each_symbol : length D.symbols ≡ length T.symbols.funs
  pub marked : AreMarked T.pairs T.set (map (λ m. m.symbol) D.marks)

-- the filter of each symbol is proper
abbrev pub AreProperSymbols : Symbols → FilteringData → Type 0
AreProperSymbols S D = (f : ℕ) (a : Ty) (w : WrittenFilter) → slice_get S.funs f ≡ Some a → slice_get D.symbols f ≡ Some w
    → IsProperAsWritten (arguments a) w

-- the filter of each marked symbol is proper
abbrev pub AreProperMarks : Symbols → List RewriteRule → FilteringData → Type 0
AreProperMarks S rules D = (i : ℕ) (m : MarkFilter) → slice_get D.marks i ≡ Some m
    → IsProperAsWritten (marked_types S rules m.symbol) m.filter
