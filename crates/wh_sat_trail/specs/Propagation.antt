-- What clauses say under an assignment: unit propagation, as in the field.
use Rattle.std.specs.Prelude.{◌≡◌, ◌≢◌, ℕ, ◌<◌, ◌≤◌, List, [], length, get_or, take}
use Rattle.wh_sat_trail.specs.declared.literal.Literal.{Literal}
use Rattle.wh_sat_trail.specs.Assignment.{Fails, Open, AllBelow}

-- the variables of all clauses are below a number
abbrev pub Within : ℕ → List (List Literal) → Type 0
Within n clauses = (k : ℕ) → k < length clauses → AllBelow n (get_or clauses k [])

-- the clause has only false literals
abbrev pub IsRefuted : List Literal → List Literal → Type 0
IsRefuted t c = (i : ℕ) (d : Literal) → i < length c → Fails t (get_or c i d)

-- the clause has an unassigned literal, and its other literals are false
pub record Forces (t c : List Literal) (l : Literal) : Type 0 where
  pub free : Open t l
  pub place : ℕ
  pub within : place < length c
  pub is : (d : Literal) → get_or c place d ≡ l
  pub others : (i : ℕ) (d : Literal) → i < length c → get_or c i d ≢ l → Fails t (get_or c i d)

-- some clause forces the literal
pub record IsForced (clauses : List (List Literal)) (t : List Literal) (l : Literal) : Type 0 where
  pub clause : ℕ
  pub known : clause < length clauses
  pub forces : Forces t (get_or clauses clause []) l

-- the second list begins with the first, and each later literal is forced by those before it
pub record Grows (clauses : List (List Literal)) (before after : List Literal) : Type 0 where
  pub kept : take (length before) after ≡ before
  pub forced : (k : ℕ) (d : Literal) → length before ≤ k → k < length after → IsForced clauses (take k after) (get_or after k d)

-- no clause is false, and none forces a literal
pub record IsClosed (clauses : List (List Literal)) (t : List Literal) : Type 0 where
  pub unrefuted : (k : ℕ) → k < length clauses → IsRefuted t (get_or clauses k []) → ⊥
  pub unforced : (k : ℕ) (l : Literal) → k < length clauses → Forces t (get_or clauses k []) l → ⊥
