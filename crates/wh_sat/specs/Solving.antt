-- Assignments to all variables, and what is known of a list of clauses of which some were given and the others learnt.
use Rattle.std.specs.Prelude.{◌≡◌, ℕ, ◌<◌, ◌||◌, Bool, true, false, not, cond, List, [], ◌∷◌, length, get_or, take, map}
use Rattle.wh_sat_trail.specs.declared.literal.Literal.{Literal}
use Rattle.wh_sat_trail.specs.Propagation.{IsClosed}
use Rattle.wh_sat_trail.specs.Watch.{nothing}
use Rattle.wh_sat.specs.Learning.{Derives, Has, IsLearnt}

-- the truth of a literal and of a clause under an assignment
abbrev pub literal_true : (ℕ → Bool) → Literal → Bool
literal_true v l = cond l.positive (v l.variable) (not (v l.variable))

abbrev pub clause_true : (ℕ → Bool) → List Literal → Bool
clause_true v [] = false
clause_true v (l ∷ c) = literal_true v l || clause_true v c

-- all clauses are true
abbrev pub Solves : (ℕ → Bool) → List (List Literal) → Type 0
Solves v clauses = (k : ℕ) → k < length clauses → clause_true v (get_or clauses k []) ≡ true

-- all clauses that were given are true; `learnt` tells the others
abbrev pub SolvesGiven : (ℕ → Bool) → List (List Literal) → List Bool → Type 0
SolvesGiven v clauses learnt = (k : ℕ) → k < length clauses → get_or learnt k false ≡ false → clause_true v (get_or clauses k []) ≡ true

-- each learnt clause can be learnt from those before it, and follows from the given ones
pub record Known (n : ℕ) (clauses : List (List Literal)) (learnt : List Bool) : Type 0 where
  pub marked : length learnt ≡ length clauses
  pub each : (k : ℕ) → k < length clauses → get_or learnt k false ≡ true → IsLearnt n (take k clauses) (get_or clauses k [])
  pub follows : (v : ℕ → Bool) → SolvesGiven v clauses learnt → Solves v clauses

-- the decisions of a trail
abbrev pub decisions : List Literal → List ℕ → List Literal
decisions t marks = map (λ place. get_or t place nothing) marks

-- each level begins where all was propagated; what is true derives from the decisions, and before the first level from
-- nothing
pub record Levels (clauses : List (List Literal)) (t : List Literal) (marks : List ℕ) : Type 0 where
  pub closed : (j : ℕ) → j < length marks → IsClosed clauses (take (get_or marks j 0) t)
  pub ground : (m : Literal) → Has (take (get_or marks 0 (length t)) t) m → Derives clauses [] m
  pub derived : (m : Literal) → Has t m → Derives clauses (decisions t marks) m

-- marks rise below a number
pub record IsRising (marks : List ℕ) (n : ℕ) : Type 0 where
  pub within : (j : ℕ) → j < length marks → get_or marks j 0 < n
  pub rising : (i j : ℕ) → i < j → j < length marks → get_or marks i 0 < get_or marks j 0
