-- The answers of the search for a projection.
use Rattle.std.specs.Prelude.{ℕ, ◌≡◌, ◌<◌, List, length, map, Contains, Some, slice_get}
use Rattle.wh_terms.specs.Rules.{RewriteRule}
use Rattle.wh_pairs.specs.PairData.{PairData}
use Rattle.wh_sat_trail.specs.declared.literal.Literal.{Literal}
use Rattle.wh_sat.specs.declared.solving.Search.{Search}
use Rattle.wh_sat.specs.declared.solving.Search.TheVariants as search
use Rattle.wh_sat.specs.Learning.{Learnt}
use Rattle.wh_subterm.specs.Projections.{Below, Chosen}
use Rattle.wh_subterm.specs.SubtermRows.{IsProjection, chosen}
use Rattle.wh_find_subterm.specs.declared.find.ProjectionFound.{ProjectionFound}
use Rattle.wh_find_subterm.specs.Formula.{IsProjections}

-- each pair of the set that is below is dropped
abbrev pub DropsAllBelow : List PairData → List ℕ → List Chosen → List ℕ → Type 0
DropsAllBelow pairs set args drop = (n : ℕ) (a : PairData) → Contains set n → slice_get pairs n ≡ Some a → Below args a → Contains drop n

-- clauses as many as the budget, each learnt from the formula of the set and those before it
pub record IsSpent (rules : List RewriteRule) (pairs : List PairData) (set : List ℕ) (budget : ℕ)
    (learnt : List (List Literal)) : Type 0 where
  pub count : length learnt ≡ budget
  pub variables : ℕ
  pub clauses : List (List Literal)
  pub formula : IsProjections rules pairs set variables clauses
  pub learnt_from : Learnt variables clauses learnt

-- a projection that drops all that is below, or that none drops a pair, where clauses may be learnt at all; or the
-- learnt clauses
abbrev pub IsAnswer : List RewriteRule → List PairData → List ℕ → ℕ → Search ProjectionFound → Type 0
IsAnswer rules pairs set budget (search.Found f) = (0 < budget) × IsProjection rules pairs set (map chosen f.args) f.drop
    × DropsAllBelow pairs set (map chosen f.args) f.drop
IsAnswer rules pairs set budget search.Nothing = (0 < budget)
    × ((args : List Chosen) (drop : List ℕ) → IsProjection rules pairs set args drop → ⊥)
IsAnswer rules pairs set budget (search.Spent learnt) = IsSpent rules pairs set budget learnt
