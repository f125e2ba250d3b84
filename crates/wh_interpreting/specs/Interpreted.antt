-- The answers of the search for interpretations of a set by all its means.
use Rattle.std.specs.Prelude.{ℕ, List, Option, Some, None}
use Rattle.wh_system.specs.Systems.{SystemData}
use Rattle.wh_pairs.specs.PairData.{PairData}
use Rattle.wh_cert.specs.Written as w
use Rattle.wh_cert.specs.declared.certificate.Node.{Node}
use Rattle.wh_cert.specs.Said.{said_node}
use Rattle.wh_sat.specs.declared.solving.Search.{Search}
use Rattle.wh_sat.specs.declared.solving.Search.TheVariants as search
use Rattle.wh_usable.specs.Closed.{IsUsable}
use Rattle.wh_proof.specs.Looked.{poly_task}
use Rattle.wh_poly_guesses.specs.Conditions.{HasNoInterpretation}
use Rattle.wh_poly_guesses.specs.Found.{task_of, IsInterpretationOver}
use Rattle.wh_poly_blocking.specs.Answers.{IsSpent}
use Rattle.wh_sat_trail.specs.declared.literal.Literal.{Literal}
use Rattle.wh_interpreting.specs.Fewer.{HasFewer}
use Rattle.wh_interpreting.specs.Lists.{ListsEnd}

-- the list, where there is one, is closed for the set and has not all rules (ours)
abbrev pub IsShortList : SystemData → List PairData → List ℕ → Option (List ℕ) → Type 0
IsShortList d ps set None = Unit {0}
IsShortList d ps set (Some listed) = IsUsable (poly_task d ps set (Some listed)) × HasFewer d listed

-- the node is one of interpretations that lists no rules, or such a list, and its conditions hold of the set (ours)
pub record Interprets (d : SystemData) (ps : List PairData) (set : List ℕ) (line : w.Node) : Type 0 where
  pub usable : Option (List ℕ)
  pub list : IsShortList d ps set usable
  pub is : IsInterpretationOver d ps set usable line

-- no interpretation of the space lets a pair go where all rules are to be covered, and this became of the least closed
-- list (ours)
pub record HasNone (d : SystemData) (ps : List PairData) (set : List ℕ) (tries : ℕ) : Type 0 where
  pub over_all : HasNoInterpretation (task_of d ps set)
  pub lists : ListsEnd d ps set tries

-- the search over all rules made as many clauses as it may, which are shown, and this became of the least closed list
-- (ours)
pub record IsOpen (d : SystemData) (ps : List PairData) (set : List ℕ) (tries : ℕ) (list : List (List Literal)) : Type 0 where
  pub over_all : IsSpent d ps set tries list
  pub lists : ListsEnd d ps set tries

-- the answer of the search: a node of interpretations; that there is none; or the clauses of the search for one
abbrev pub IsInterpreted : SystemData → List PairData → List ℕ → ℕ → Search Node → Type 0
IsInterpreted d ps set tries (search.Found node) = Interprets d ps set (said_node node)
IsInterpreted d ps set tries search.Nothing = HasNone d ps set tries
IsInterpreted d ps set tries (search.Spent list) = IsOpen d ps set tries list
