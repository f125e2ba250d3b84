-- How far hints have led (working forms, cited by private clauses alone).
use Rattle.std.specs.Prelude.{◌≡◌, ◌≢◌, ℕ, ◌<◌, List, [], ◌++◌, length, get_or}
use Rattle.wh_sat_trail.specs.declared.literal.Literal.{Literal}
use Rattle.wh_sat_trail.specs.Assignment.{AllBelow}
use Rattle.wh_refute.specs.Refuting.{Leads}
use Rattle.wh_refute.specs.RefuteFaults.{IsStuck}
use Rattle.wh_refute.specs.Told.{Tells}
use Rattle.wh_refute.specs.declared.truth.Truth.{Truth}

-- no two of the literals have one variable
abbrev pub AreApart : List Literal → Type 0
AreApart u = (i j : ℕ) (d : Literal) → i < j → j < length u → (get_or u i d).variable ≢ (get_or u j d).variable

-- from the start each hint has made one literal true, in this order, and what leads on from there leads on behind the
-- hints
pub record Reaches (n : ℕ) (clauses : List (List Literal)) (start : List Literal) (hints : List ℕ) (made : List Literal) : Type 0 where
  pub leads : (more : List ℕ) → Leads clauses (start ++ made) more → Leads clauses start (hints ++ more)
  pub count : length hints ≡ length made
  pub below : AllBelow n made
  pub apart : AreApart made

-- the marks tell of the start and of what hints have made true
pub record IsAt (n : ℕ) (clauses : List (List Literal)) (start : List Literal) (truth : Truth) (hints : List ℕ) : Type 0 where
  pub made : List Literal
  pub tells : Tells n truth (start ++ made)
  pub reaches : Reaches n clauses start hints made

-- the clauses before that number make nothing true
abbrev pub AreStuck : ℕ → List (List Literal) → Truth → ℕ → Type 0
AreStuck n clauses truth number =
    (t : List Literal) → Tells n truth t → (k : ℕ) → k < number → k < length clauses → IsStuck t (get_or clauses k [])
