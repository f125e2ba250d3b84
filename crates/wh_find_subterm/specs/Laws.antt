-- The models of the formula of projections, and the projections that they say.
use Rattle.std.specs.Prelude.{ℕ, ◌+◌, ◌<◌, ◌≡◌, ◌↔◌, Bool, true, List, length, All, Contains}
use Rattle.wh_terms.specs.Rules.{RewriteRule}
use Rattle.wh_pairs.specs.PairData.{PairData}
use Rattle.wh_sat_trail.specs.declared.literal.Literal.{Literal}
use Rattle.wh_sat.specs.Solving.{Solves}
use Rattle.wh_subterm.specs.Projections.{Chosen}
use Rattle.wh_subterm.specs.SubtermRows.{IsProjection}
use Rattle.wh_find_subterm.specs.Rows.{choices_of, rows_from, row_of}
use Rattle.wh_find_subterm.specs.Formula.{IsProjections}

-- on the variables of the symbols the values say which arguments are chosen
abbrev pub Says : List RewriteRule → List ℕ → (ℕ → Bool) → List Chosen → Type 0
Says rules fs v args = (f i : ℕ) → Contains fs f → i < choices_of rules f
    → (v ((row_of (rows_from rules 0 fs) f).first + i) ≡ true) ↔ Contains args (record { symbol = f; argument = i + 1 })

-- each model says a projection that drops a pair
abbrev pub ModelsAreProjections : Type 0
ModelsAreProjections = (rules : List RewriteRule) (pairs : List PairData) (set : List ℕ) (n : ℕ) (clauses : List (List Literal))
    (v : ℕ → Bool)
    → All (λ k. k < length pairs) set → (formula : IsProjections rules pairs set n clauses) → Solves v clauses
    → (args : List Chosen) × (drop : List ℕ) × IsProjection rules pairs set args drop × Says rules formula.symbols v args

-- each such projection is said by a model
abbrev pub ProjectionsAreModels : Type 0
ProjectionsAreModels = (rules : List RewriteRule) (pairs : List PairData) (set : List ℕ) (n : ℕ) (clauses : List (List Literal))
    (args : List Chosen) (drop : List ℕ)
    → All (λ k. k < length pairs) set → (formula : IsProjections rules pairs set n clauses) → IsProjection rules pairs set args drop
    → (v : ℕ → Bool) × Solves v clauses × Says rules formula.symbols v args

-- a set has one formula
abbrev pub FormulaIsOne : Type 0
FormulaIsOne = (rules : List RewriteRule) (pairs : List PairData) (set : List ℕ) (n m : ℕ) (clauses also : List (List Literal))
    → IsProjections rules pairs set n clauses → IsProjections rules pairs set m also → (n ≡ m) × (clauses ≡ also)
