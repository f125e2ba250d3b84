-- The answers of the search for interpretations of a flat set by a circuit.
use Rattle.std.specs.Prelude.{ℕ, ◌+◌, ◌*◌, ◌≤◌, ◌≡◌, Bool, Option, Some, None, List, [], ◌∷◌, length}
use Rattle.wh_system.specs.Systems.{SystemData}
use Rattle.wh_pairs.specs.PairData.{PairData}
use Rattle.wh_pairs.specs.Marked.{AreMarked}
use Rattle.wh_reduction_pairs.specs.TaskData.{TaskData}
use Rattle.wh_polycheck.specs.Readings.{ReadingsData}
use Rattle.wh_cert.specs.declared.certificate.Node.{Node}
use Rattle.wh_cert.specs.Said.{said_node}
use Rattle.wh_usable.specs.Closed.{IsUsable}
use Rattle.wh_proof.specs.Looked.{poly_task}
use Rattle.wh_sat_trail.specs.declared.literal.Literal.{Literal}
use Rattle.wh_sat_trail.specs.Propagation.{Within}
use Rattle.wh_sat.specs.Learning.{Learnt}
use Rattle.wh_sat.specs.Solving.{Solves}
use Rattle.wh_sat.specs.declared.solving.Search.{Search}
use Rattle.wh_sat.specs.declared.solving.Search.TheVariants as search
use Rattle.wh_poly_guesses.specs.Coefficients.{AreOfSpace}
use Rattle.wh_poly_guesses.specs.Conditions.{HasNoInterpretation, LetsGo}
use Rattle.wh_poly_guesses.specs.Found.{IsInterpretationOver}
use Rattle.wh_poly_blocking.specs.Tried.{AreWritten}
use Rattle.wh_poly_flat.specs.Flat.{all_occurrences}

-- the greatest number of variables of the formula, where there are n occurrences: 200,000 for each occurrence, and
-- 400,000 more where no rules are to be covered, as all symbols have coefficients
abbrev pub most_variables : List ℕ → ℕ → ℕ
most_variables [] n = 200000 * (n + 2)
most_variables (m ∷ covered) n = 200000 * n

-- the models of the clauses are, on the bits of coefficients, just the interpretations of the space that let a pair of
-- the set go, with not too many variables (ours)
pub record IsFlatFormula (T : TaskData) (marked : List ℕ) (variables : ℕ) (clauses : List (List Literal)) : Type 0 where
  pub few : variables ≤ most_variables T.covered (all_occurrences T)
  pub within : Within variables clauses
  -- what a model writes lets a pair go
  pub models : (v : ℕ → Bool) → Solves v clauses → (R : ReadingsData) → AreWritten T marked v R → LetsGo T R
  -- each interpretation of the space that lets a pair go is written by a model
  pub all : (R : ReadingsData) → AreOfSpace T R → LetsGo T R → (v : ℕ → Bool) × Solves v clauses × AreWritten T marked v R

-- as many clauses as the budget, each of which can be learnt from such a formula and those before it (ours)
pub record IsFlatSpent (T : TaskData) (budget : ℕ) (list : List (List Literal)) : Type 0 where
  pub count : length list ≡ budget
  pub marked : List ℕ
  pub are_marked : AreMarked T.pairs T.set marked
  pub variables : ℕ
  pub clauses : List (List Literal)
  pub formula : IsFlatFormula T marked variables clauses
  pub learnt : Learnt variables clauses list

-- the list, where there is one, is closed for the set
abbrev pub IsClosedList : SystemData → List PairData → List ℕ → Option (List ℕ) → Type 0
IsClosedList d pairs set None = Unit {0}
IsClosedList d pairs set (Some listed) = IsUsable (poly_task d pairs set (Some listed))

-- a node of interpretations, which lists these rules or none; that no interpretations of the space let a pair go where
-- these rules, or else all, are to be covered; or the clauses
abbrev pub IsFlatAnswer : SystemData → List PairData → List ℕ → Option (List ℕ) → ℕ → Search Node → Type 0
IsFlatAnswer d pairs set usable budget (search.Found node) = IsInterpretationOver d pairs set usable (said_node node)
IsFlatAnswer d pairs set usable budget search.Nothing = HasNoInterpretation (poly_task d pairs set usable)
IsFlatAnswer d pairs set usable budget (search.Spent list) = IsFlatSpent (poly_task d pairs set usable) budget list
