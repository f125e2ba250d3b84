-- What propagation from a set of literals makes true, and the clauses that can be learnt by it.
use Rattle.std.specs.Prelude.{◌≡◌, ◌≢◌, ℕ, ◌<◌, Bool, true, false, List, ◌++◌, [], length, get_or, take, map, remove}
use Rattle.wh_sat_trail.specs.declared.literal.Literal.{Literal}
use Rattle.wh_sat_trail.specs.Assignment.{AllBelow, Holds, negated}
use Rattle.wh_sat_trail.specs.Propagation.{IsClosed}

-- the literal stands in the list
pub record Has (c : List Literal) (l : Literal) : Type 0 where
  pub place : ℕ
  pub within : place < length c
  pub is : (d : Literal) → get_or c place d ≡ l

-- what propagation makes true, beginning with some literals
pub data Derives (clauses : List (List Literal)) (start : List Literal) : Literal → Type 0 where
  given : (l : Literal) → Has start l → Derives clauses start l
  forced : (k : ℕ) (l : Literal) → k < length clauses → Has (get_or clauses k []) l
      → ((i : ℕ) (d : Literal) → i < length (get_or clauses k []) → get_or (get_or clauses k []) i d ≢ l
      → Derives clauses start (negated (get_or (get_or clauses k []) i d)))
      → Derives clauses start l

-- propagation leaves some clause with only false literals
pub record Refutes (clauses : List (List Literal)) (start : List Literal) : Type 0 where
  pub clause : ℕ
  pub known : clause < length clauses
  pub all : (i : ℕ) (d : Literal) → i < length (get_or clauses clause [])
      → Derives clauses start (negated (get_or (get_or clauses clause []) i d))

abbrev pub Includes : List Literal → List Literal → Type 0
Includes c e = (l : Literal) → Has e l → Has c l

-- a clause that can be learnt from earlier ones over n variables: propagation refutes its negation, and no longer does
-- once a literal is left out; no earlier clause is within it
pub record IsLearnt (n : ℕ) (clauses : List (List Literal)) (c : List Literal) : Type 0 where
  pub below : AllBelow n c
  pub plain : (l : Literal) → Has c l → Has c (negated l) → ⊥
  pub fresh : (k : ℕ) → k < length clauses → Includes c (get_or clauses k []) → ⊥
  pub refuted : Refutes clauses (map negated c)
  pub needed : (i : ℕ) → i < length c → Refutes clauses (map negated (remove c i)) → ⊥

-- each clause of a list can be learnt from the formula's clauses and those before it
abbrev pub Learnt : ℕ → List (List Literal) → List (List Literal) → Type 0
Learnt n clauses list = (k : ℕ) → k < length list → IsLearnt n (clauses ++ take k list) (get_or list k [])

-- literals from which propagation derives a false clause, or a literal with its negation
pub data Clash (clauses : List (List Literal)) (start : List Literal) : Type 0 where
  by_clause : Refutes clauses start → Clash clauses start
  by_pair : (l : Literal) → Derives clauses start l → Derives clauses start (negated l) → Clash clauses start

-- a closed assignment under which t holds, and all of a list but the place i
pub record Spare (clauses : List (List Literal)) (t kept : List Literal) (i : ℕ) : Type 0 where
  pub under : List Literal
  pub closed : IsClosed clauses under
  pub base : (m : Literal) → Has t m → Holds under m
  pub rest : (j : ℕ) (d : Literal) → j < length kept → j ≢ i → Holds under (get_or kept j d)

-- of some literals those that are needed for a clash, beside t
pub record Reduced (clauses : List (List Literal)) (t literals kept : List Literal) : Type 0 where
  pub within : (m : Literal) → Has kept m → Has literals m
  pub refuted : Clash clauses (t ++ kept)
  pub needed : (i : ℕ) → i < length kept → Spare clauses t kept i

-- what holds after literals were supposed that do not clash
pub record Assumed (clauses : List (List Literal)) (t literals after : List Literal) : Type 0 where
  pub closed : IsClosed clauses after
  pub base : (m : Literal) → Has t m → Has after m
  pub all : (m : Literal) → Has literals m → Has after m
  pub derived : (m : Literal) → Has after m → Derives clauses (t ++ literals) m

abbrev pub Supposes : List (List Literal) → List Literal → List Literal → List Literal → Bool → Type 0
Supposes clauses t literals after true = Clash clauses (t ++ literals)
Supposes clauses t literals after false = Assumed clauses t literals after
