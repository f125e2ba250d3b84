-- What a list that refutes a formula means, and that it has no fault.
use Rattle.std.specs.Prelude.{◌≡◌, ℕ, ◌<◌, Bool, true, List, [], length, get_or}
use Rattle.wh_sat_trail.specs.declared.literal.Literal.{Literal}
use Rattle.wh_sat_trail.specs.declared.entry.Entry.{Entry}
use Rattle.wh_sat_trail.specs.Member.{member}
use Rattle.wh_refute.specs.Refuting.{IsRefutation}
use Rattle.wh_refute.specs.RefuteFaults.{IsFirstRefuteFault}
use Rattle.wh_refute.specs.declared.fault.RefuteFault.{RefuteFault}

-- a literal of the clause has the value that makes it true
abbrev pub IsSatisfied : (ℕ → Bool) → List Literal → Type 0
IsSatisfied v c = (l : Literal) × (member l c ≡ true) × (v l.variable ≡ l.positive)

-- each clause has a literal with the value that makes it true
abbrev pub IsModel : (ℕ → Bool) → List (List Literal) → Type 0
IsModel v clauses = (k : ℕ) → k < length clauses → IsSatisfied v (get_or clauses k [])

abbrev pub RefutationsRefute : Type 0
RefutationsRefute = (n : ℕ) (clauses : List (List Literal)) (list : List Entry) → IsRefutation n clauses list
    → (v : ℕ → Bool) → IsModel v clauses → ⊥

abbrev pub RefutationsHaveNoFault : Type 0
RefutationsHaveNoFault = (n : ℕ) (clauses : List (List Literal)) (list : List Entry) → IsRefutation n clauses list
    → (f : RefuteFault) → IsFirstRefuteFault n clauses list f → ⊥
