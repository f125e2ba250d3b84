-- What becomes of the search for interpretations over the least list of rules that is closed for a set.
use Rattle.std.specs.Prelude.{ℕ, ◌+◌, ◌*◌, ◌<◌, ◌≤◌, List, Option, Some, None, length}
use Rattle.wh_system.specs.Systems.{SystemData}
use Rattle.wh_pairs.specs.PairData.{PairData}
use Rattle.wh_reduction_pairs.specs.TaskData.{whole_task}
use Rattle.wh_sat_trail.specs.declared.literal.Literal.{Literal}
use Rattle.wh_usable_rules.specs.Least.{IsLeastClosed, IsOnlyWhole}
use Rattle.wh_proof.specs.Looked.{poly_task}
use Rattle.wh_poly_guesses.specs.Conditions.{HasNoInterpretation}
use Rattle.wh_poly_flat.specs.Flat.{IsFlat}
use Rattle.wh_find_flat.specs.Answers.{IsFlatSpent}

-- how many listed rules and pairs of the set are put into one formula at most (ours)
abbrev pub most_covered : ℕ
most_covered = 40

-- the least list that is closed for the set; and the set is flat with it, so that a formula is made (ours)
pub record IsAsked (d : SystemData) (ps : List PairData) (set listed : List ℕ) : Type 0 where
  pub least : IsLeastClosed (whole_task d.symbols d.rules ps set) listed
  pub flat : IsFlat (poly_task d ps set (Some listed))

-- why no formula over a list is made: all rules are usable; the least closed list is too long; or the set is not flat
-- with it (ours)
pub data IsNotAsked (d : SystemData) (ps : List PairData) (set : List ℕ) : Type 0 where
  only_whole : IsOnlyWhole (whole_task d.symbols d.rules ps set) → IsNotAsked d ps set
  too_long : (listed : List ℕ) → IsLeastClosed (whole_task d.symbols d.rules ps set) listed
      → most_covered < length listed + length set → IsNotAsked d ps set
  not_flat : (listed : List ℕ) → IsLeastClosed (whole_task d.symbols d.rules ps set) listed
      → (IsFlat (poly_task d ps set (Some listed)) → ⊥) → IsNotAsked d ps set

-- the list over which a formula is made, or why none is made
abbrev pub IsListFor : SystemData → List PairData → List ℕ → Option (List ℕ) → Type 0
IsListFor d ps set None = IsNotAsked d ps set
IsListFor d ps set (Some listed) = IsAsked d ps set listed

-- how the search over the least closed list ended without a find: it was not asked; no interpretations of the space
-- let a pair go where the list is covered; or it was given up with as many clauses as it may learn, a number that
-- grows with that of the whole search (ours)
pub data ListsEnd (d : SystemData) (ps : List PairData) (set : List ℕ) (tries : ℕ) : Type 0 where
  not_asked : IsNotAsked d ps set → ListsEnd d ps set tries
  none : (listed : List ℕ) → IsAsked d ps set listed → HasNoInterpretation (poly_task d ps set (Some listed))
      → ListsEnd d ps set tries
  given_up : (listed : List ℕ) (most : ℕ) (list : List (List Literal)) → IsAsked d ps set listed
      → IsFlatSpent (poly_task d ps set (Some listed)) most list → most ≤ tries → tries < 10 * (most + 1)
      → ListsEnd d ps set tries
