-- Increasing lists as the sets of their numbers.
use mathlib.Core.Path.{ap₂}
use Rattle.std.proofs.Common.{◌≡◌, ℕ, List, [], ◌∷◌, All, Contains, refl}
use Rattle.std.proofs.lemmas.List.Elements.{All-head, All-tail}
use Rattle.wh_pairs.specs.PairData.{IsIncreasing}
use Rattle.wh_proof.specs.Nodes.{AreSetsOf, no_sets, more_sets}
use Rattle.wh_pairs.specs.Sets.{IsSetOf}
use Rattle.wh_pairs.proofs.SetLemmas.{set_one}

-- a list that increases is the set of its numbers
pub set_itself : (set : List ℕ) → IsIncreasing set → IsSetOf (Contains set) set
set_itself set up = record { increasing = up; each = λ n. (λ found. found, λ found. found) }

-- and the only one
pub set_of_increasing : (list set : List ℕ) → IsIncreasing list → IsSetOf (Contains list) set → set ≡ list
set_of_increasing list set up is = set_one (Contains list) set list is (set_itself list up)

-- so of lists of these
pub sets_of_increasing : (parts sets : List (List ℕ)) → All IsIncreasing parts → AreSetsOf parts sets → sets ≡ parts
sets_of_increasing [] [] up no_sets = refl
sets_of_increasing (part ∷ parts) (set ∷ sets) up (more_sets is are) =
    ap₂ (λ x xs. x ∷ xs) (set_of_increasing part set (All-head IsIncreasing part parts up) is)
    (sets_of_increasing parts sets (All-tail IsIncreasing part parts up) are)
sets_of_increasing [] (set ∷ sets) up none = elim none [ ]
sets_of_increasing (part ∷ parts) [] up none = elim none [ ]
