-- What the solver ends with, as an answer of the search.
use Rattle.std.proofs.Common.{◌≡◌, ℕ, ◌<◌, Bool, List, length, All, sym, ap, subst, ◌∙◌}
use Rattle.wh_terms.specs.Rules.{RewriteRule}
use Rattle.wh_pairs.specs.PairData.{PairData}
use Rattle.wh_pairs.proofs.Increasing.{one_place}
use Rattle.wh_sat_trail.specs.declared.literal.Literal.{Literal}
use Rattle.wh_sat.specs.Learning.{Learnt}
use Rattle.wh_sat.specs.Solving.{Solves}
use Rattle.wh_subterm.specs.Projections.{Chosen}
use Rattle.wh_subterm.specs.SubtermRows.{IsProjection}
use Rattle.wh_pairs.specs.Marked.{AreMarked}
use Rattle.wh_find_subterm.specs.declared.rows.Row.{Row}
use Rattle.wh_find_subterm.specs.Rows.{rows_from}
use Rattle.wh_find_subterm.specs.Formula.{IsFormula, IsProjections}
use Rattle.wh_find_subterm.specs.Found.{DropsAllBelow, IsSpent}
use Rattle.wh_find_subterm.specs.Reading.{IsBelowSet, chosen_by}
use Rattle.wh_find_subterm.proofs.Models.{IsModel, model_from, projection_from, some_picked}
use Rattle.wh_find_subterm.proofs.RowsMade.{AreRows, projections_made}
use Rattle.wh_find_subterm.proofs.Ranges.{formula_within}
use Rattle.wh_sat_trail.specs.Propagation.{Within}
use Rattle.wh_find_subterm.proofs.Back.{projections_are_models}
use Rattle.wh_find_subterm.proofs.BelowSets.{drops_all, drops_below, drops_some, drops_within}

pub found_answer : {rules : List RewriteRule} {fs : List ℕ} {items : List Row} {end : ℕ} (pairs : List PairData) (set : List ℕ) (n : ℕ) (clauses : List (List Literal)) (v : ℕ → Bool) (args : List Chosen) (drop : List ℕ)
    → All (λ k. k < length pairs) set → AreRows rules fs items end → AreMarked pairs set fs → IsFormula items end pairs set n clauses → Solves v clauses → args ≡ chosen_by v items
    → IsBelowSet pairs set args (length set) drop → IsProjection rules pairs set args drop × DropsAllBelow pairs set args drop
found_answer {rules = rules} {fs = fs} pairs set n clauses v args drop within rows marked formula solves is gathered =
    let by = chosen_by v (rows_from rules 0 fs) in
    let same : args ≡ by = is ∙ ap (chosen_by v) rows.items_are in
    let model : IsModel rules pairs set fs v = model_from rules pairs set n clauses v (projections_made pairs set n clauses rows marked formula) solves in
    let all : IsBelowSet pairs set by (length set) drop = subst (λ cs. IsBelowSet pairs set cs (length set) drop) same gathered in
    let (m, has, below) = some_picked rules pairs set fs v model within in
    let projection = projection_from rules pairs set fs v drop model within (drops_some pairs set by drop all m has below) (λ i j k left right. one_place drop i j k gathered.in_order left right)
    (drops_within pairs set by drop all) (drops_below pairs set by drop all) in
    (subst (λ cs. IsProjection rules pairs set cs drop) (sym same) projection, drops_all pairs set args drop gathered)

pub nothing_answer : (rules : List RewriteRule) (pairs : List PairData) (set : List ℕ) (n : ℕ) (clauses : List (List Literal)) → All (λ k. k < length pairs) set
    → IsProjections rules pairs set n clauses → ((v : ℕ → Bool) → Solves v clauses → ⊥) → (args : List Chosen) (drop : List ℕ) → IsProjection rules pairs set args drop → ⊥
nothing_answer rules pairs set n clauses within formula none args drop projection =
    let (v, solves, says) = projections_are_models rules pairs set n clauses args drop within formula projection in none v solves

pub spent_answer : (rules : List RewriteRule) (pairs : List PairData) (set : List ℕ) (n : ℕ) (clauses : List (List Literal)) (budget : ℕ) (learnt : List (List Literal)) → IsProjections rules pairs set n clauses
    → length learnt ≡ budget → Learnt n clauses learnt → IsSpent rules pairs set budget learnt
spent_answer rules pairs set n clauses budget learnt formula count from = record { count = count; variables = n; clauses = clauses; formula = formula; learnt_from = from }

pub within_made : {rules : List RewriteRule} {fs : List ℕ} {items : List Row} {end : ℕ} (pairs : List PairData) (set : List ℕ) (n : ℕ) (clauses : List (List Literal)) → AreRows rules fs items end → AreMarked pairs set fs
    → IsFormula items end pairs set n clauses → Within n clauses
within_made {rules = rules} {fs = fs} pairs set n clauses rows marked formula = formula_within rules pairs set fs n clauses (projections_made pairs set n clauses rows marked formula).formula
