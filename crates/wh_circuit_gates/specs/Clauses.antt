-- The clauses that say what a gate is: its variable is true exactly where all of its wires are.
use Rattle.std.specs.Prelude.{ℕ, true, false, List, [], ◌∷◌, ◌++◌, map}
use Rattle.wh_sat_trail.specs.declared.literal.Literal.{Literal}
use Rattle.wh_sat_trail.specs.Assignment.{negated}

abbrev pub yes : ℕ → Literal
yes k = record { variable = k; positive = true }

abbrev pub no : ℕ → Literal
no k = record { variable = k; positive = false }

-- the clauses of a gate: it is false, or each wire is true; it is true, or some wire is false
abbrev pub shorts : ℕ → List Literal → List (List Literal)
shorts k ls = map (λ l. no k ∷ l ∷ []) ls

abbrev pub gate_clauses : ℕ → List Literal → List (List Literal)
gate_clauses k ls = shorts k ls ++ (yes k ∷ map negated ls) ∷ []
