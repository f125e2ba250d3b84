-- The clauses of the formula of projections: one argument of each symbol is chosen, and pairs do not grow.
use Rattle.std.specs.Prelude.{ℕ, zero, suc, ◌+◌, true, false, List, [], ◌∷◌, ◌++◌, cond, nat_eq, nat_lt, map}
use Rattle.std.specs.List.{flat_map, range_with_len}
use Rattle.wh_sat_trail.specs.declared.literal.Literal.{Literal}
use Rattle.wh_subterm.specs.declared.relation.Relation.{Relation}
use Rattle.wh_subterm.specs.declared.relation.Relation.TheVariants as is
use Rattle.wh_find_subterm.specs.declared.rows.Row.{Row}
use Rattle.wh_find_subterm.specs.declared.cases.Case.{Case}

abbrev pub yes : ℕ → Literal
yes x = record { variable = x; positive = true }

abbrev pub no : ℕ → Literal
no x = record { variable = x; positive = false }

-- one of `count` variables from `first` on is true
abbrev pub some_of : ℕ → ℕ → List Literal
some_of first count = map yes (range_with_len first count)

-- two variables are not both true; the literals stand by their variables, each once
abbrev pub not_both : ℕ → ℕ → List Literal
not_both x y = cond (nat_eq x y) (no x ∷ []) (cond (nat_lt x y) (no x ∷ no y ∷ []) (no y ∷ no x ∷ []))

-- the variable `first` and each of `count` variables behind it are not both true
abbrev pub with_each : ℕ → ℕ → List (List Literal)
with_each first count = map (λ x. not_both first x) (range_with_len (first + 1) count)

-- no two of `count` variables from `first` on are true
abbrev pub no_two : ℕ → ℕ → List (List Literal)
no_two first zero = []
no_two first (suc count) = with_each first count ++ no_two (first + 1) count

-- arguments under which the pair is neither equal nor below are not both chosen
abbrev pub for_neither : ℕ → ℕ → Relation → List (List Literal)
for_neither x y is.Equal = []
for_neither x y is.Below = []
for_neither x y is.Neither = not_both x y ∷ []

-- arguments under which it is not below are not both chosen, or the pair's own variable is false
abbrev pub for_not_below : ℕ → ℕ → ℕ → Relation → List (List Literal)
for_not_below x y own is.Equal = (not_both x y ++ no own ∷ []) ∷ []
for_not_below x y own is.Below = []
for_not_below x y own is.Neither = (not_both x y ++ no own ∷ []) ∷ []

abbrev pub third : Case → List (List Literal)
third c = for_neither c.left c.right c.relation

abbrev pub fourth : Case → List (List Literal)
fourth c = for_not_below c.left c.right c.own c.relation

abbrev pub one_chosen : Row → List Literal
one_chosen r = some_of r.first r.need

abbrev pub only_one_chosen : Row → List (List Literal)
only_one_chosen r = no_two r.first r.need

-- the clauses of rows and cases, and of `count` pairs whose own variables begin at `end`
abbrev pub clauses_of : List Row → List Case → ℕ → ℕ → List (List Literal)
clauses_of rows cases end count =
    map one_chosen rows ++ flat_map only_one_chosen rows ++ flat_map third cases ++ flat_map fourth cases ++ some_of end count ∷ []
