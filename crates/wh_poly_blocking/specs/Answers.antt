-- The answers of the search for interpretations by guesses.
use Rattle.std.specs.Prelude.{ℕ, ◌≡◌, List, length}
use Rattle.wh_system.specs.Systems.{SystemData}
use Rattle.wh_pairs.specs.PairData.{PairData}
use Rattle.wh_pairs.specs.Marked.{AreMarked}
use Rattle.wh_cert.specs.declared.certificate.Node.{Node}
use Rattle.wh_cert.specs.Said.{said_node}
use Rattle.wh_sat_trail.specs.declared.literal.Literal.{Literal}
use Rattle.wh_sat.specs.declared.solving.Search.{Search}
use Rattle.wh_sat.specs.declared.solving.Search.TheVariants as search
use Rattle.wh_poly_guesses.specs.Conditions.{HasNoInterpretation}
use Rattle.wh_poly_guesses.specs.Found.{task_of, IsInterpretation}
use Rattle.wh_poly_blocking.specs.Tried.{Tried}

-- clauses as many as the budget, each of a guess that was tried or learnt (ours)
pub record IsSpent (d : SystemData) (pairs : List PairData) (set : List ℕ) (budget : ℕ) (list : List (List Literal)) : Type 0 where
  pub count : length list ≡ budget
  pub marked : List ℕ
  pub are_marked : AreMarked pairs set marked
  pub tried : Tried (task_of d pairs set) marked list

-- a node of interpretations; that none of the space lets a pair go; or the clauses
abbrev pub IsAnswer : SystemData → List PairData → List ℕ → ℕ → Search Node → Type 0
IsAnswer d pairs set budget (search.Found node) = IsInterpretation d pairs set (said_node node)
IsAnswer d pairs set budget search.Nothing = HasNoInterpretation (task_of d pairs set)
IsAnswer d pairs set budget (search.Spent list) = IsSpent d pairs set budget list
