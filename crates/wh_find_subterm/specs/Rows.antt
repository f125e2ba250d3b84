-- Which variables of the formula stand for the arguments of which symbol.
use Rattle.std.specs.Prelude.{ℕ, ◌+◌, List, [], ◌∷◌, cond, nat_eq, Option, Some, None}
use Rattle.wh_terms.specs.Rules.{RewriteRule}
use Rattle.wh_system.specs.Needs.{need_of}
use Rattle.wh_find_subterm.specs.declared.rows.Row.{Row}

abbrev pub or_zero : Option ℕ → ℕ
or_zero (Some n) = n
or_zero None = 0

-- how many arguments a marked symbol has to choose from: as many as its rules need, none where it has no rules
abbrev pub choices_of : List RewriteRule → ℕ → ℕ
choices_of rules f = or_zero (need_of rules f)

-- the symbols' arguments have variables one behind the other, from n on (ours)
abbrev pub rows_from : List RewriteRule → ℕ → List ℕ → List Row
rows_from rules n [] = []
rows_from rules n (f ∷ fs) = record { symbol = f; need = choices_of rules f; first = n } ∷ rows_from rules (n + choices_of rules f) fs

-- the number behind their variables
abbrev pub end_from : List RewriteRule → ℕ → List ℕ → ℕ
end_from rules n [] = n
end_from rules n (f ∷ fs) = end_from rules (n + choices_of rules f) fs

-- the row of a symbol
abbrev pub row_of : List Row → ℕ → Row
row_of [] f = record { symbol = f; need = 0; first = 0 }
row_of (r ∷ rs) f = cond (nat_eq r.symbol f) r (row_of rs f)
