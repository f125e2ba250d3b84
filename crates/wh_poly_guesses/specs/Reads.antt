-- Symbols and marked symbols that are read by lists of coefficients.
use Rattle.std.specs.Prelude.{ℕ, ◌+◌, ◌≡◌, ◌≢◌, List, [], Some, length, get_or, slice_get}
use Rattle.wh_types.specs.Ty.{arguments}
use Rattle.wh_types.specs.Erase.{ty}
use Rattle.wh_terms.specs.Typing.{Symbols}
use Rattle.wh_terms.specs.Rules.{RewriteRule}
use Rattle.wh_poly.specs.Erase.{poly}
use Rattle.wh_hopoly.specs.declared.expression.Symbol.{Symbol}
use Rattle.wh_polycheck.specs.Marks.{marked_types}
use Rattle.wh_polycheck.specs.declared.marks.MarkedSymbol.{MarkedSymbol}
use Rattle.wh_poly_space.specs.Coefficients.{HasCoefficients}

-- the symbol has these coefficients, and so has the marked symbol
abbrev pub IsReadBy : List ℕ → Symbol → Type 0
IsReadBy cs s = HasCoefficients (arguments (ty s.kind)) cs (poly s.poly)

abbrev pub IsMarkBy : Symbols → List RewriteRule → List ℕ → MarkedSymbol → Type 0
IsMarkBy S rules cs m = HasCoefficients (marked_types S rules m.symbol) cs (poly m.poly)

-- each symbol has the coefficients of the list at its number, and each marked symbol those of the list at its place
-- behind a number
abbrev pub AreReadBy : (ℕ → List ℕ) → List Symbol → Type 0
AreReadBy at symbols = (f : ℕ) (s : Symbol) → slice_get symbols f ≡ Some s → IsReadBy (at f) s

abbrev pub AreMarksBy : Symbols → List RewriteRule → (ℕ → List ℕ) → ℕ → List MarkedSymbol → Type 0
AreMarksBy S rules at first marks = (i : ℕ) (m : MarkedSymbol) → slice_get marks i ≡ Some m → IsMarkBy S rules (at (first + i)) m

-- the list with this number, and an empty one where there is none
abbrev pub list_of : List (List ℕ) → ℕ → List ℕ
list_of lists i = get_or lists i []

-- what was read by some lists is then read by others, which differ from these at the number alone, where they have
-- these coefficients
abbrev pub IsChanged : Symbols → List RewriteRule → ℕ → List ℕ → List Symbol → List MarkedSymbol → List Symbol → List MarkedSymbol → Type 0
IsChanged S rules number cs symbols marks new_symbols new_marks =
    (before after : ℕ → List ℕ) → after number ≡ cs → ((k : ℕ) → k ≢ number → after k ≡ before k)
    → AreReadBy before symbols → AreMarksBy S rules before (length symbols) marks
    → AreReadBy after new_symbols × AreMarksBy S rules after (length new_symbols) new_marks
