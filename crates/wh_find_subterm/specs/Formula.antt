-- The formula whose models are the projections of a set of pairs that let a pair go.
use Rattle.std.specs.Prelude.{ℕ, ◌+◌, ◌≡◌, List, length}
use Rattle.wh_terms.specs.Rules.{RewriteRule}
use Rattle.wh_pairs.specs.PairData.{PairData}
use Rattle.wh_sat_trail.specs.declared.literal.Literal.{Literal}
use Rattle.wh_pairs.specs.Marked.{AreMarked}
use Rattle.wh_find_subterm.specs.declared.rows.Row.{Row}
use Rattle.wh_find_subterm.specs.declared.cases.Case.{Case}
use Rattle.wh_find_subterm.specs.Rows.{rows_from, end_from}
use Rattle.wh_find_subterm.specs.Cases.{AreCases, spots}
use Rattle.wh_find_subterm.specs.Clauses.{clauses_of}

-- Its variables are those of some rows, which end before `end`, and then one for each pair of the set in order. Its
-- clauses say, in this order: of each symbol some argument is chosen; no two are; no two are chosen under which a pair
-- is neither equal nor below; where two are chosen under which a pair is not below, the pair's variable is false; some
-- pair's variable is true (ours)
pub record IsFormula (rows : List Row) (end : ℕ) (pairs : List PairData) (set : List ℕ) (variables : ℕ)
    (clauses : List (List Literal)) : Type 0 where
  pub cases : List Case
  pub are_cases : AreCases (spots rows pairs end set) cases
  pub count : variables ≡ end + length set
  pub are_clauses : clauses ≡ clauses_of rows cases end (length set)

-- the rows are those of the marked symbols of the set in order of declaration: each with as many variables as its rules
-- need arguments
pub record IsProjections (rules : List RewriteRule) (pairs : List PairData) (set : List ℕ) (variables : ℕ)
    (clauses : List (List Literal)) : Type 0 where
  pub symbols : List ℕ
  pub marked : AreMarked pairs set symbols
  pub formula : IsFormula (rows_from rules 0 symbols) (end_from rules 0 symbols) pairs set variables clauses
