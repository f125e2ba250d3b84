-- Lists of clauses with hints that show that a formula has no model. What is true is a list of literals, so that any
-- clause may be an entry.
use Rattle.std.specs.Prelude.{◌≡◌, ◌≢◌, ℕ, ◌+◌, ◌<◌, true, false, List, [], ◌∷◌, ◌++◌, length, get_or, take, map, slice_get, Some}
use Rattle.wh_sat_trail.specs.declared.literal.Literal.{Literal}
use Rattle.wh_sat_trail.specs.declared.entry.Entry.{Entry}
use Rattle.wh_sat_trail.specs.Assignment.{AllBelow, negated}
use Rattle.wh_sat_trail.specs.Member.{member}

-- all literals of the clause are false: their negations are true
abbrev pub IsFalse : List Literal → List Literal → Type 0
IsFalse t c = (m : Literal) → member m c ≡ true → member (negated m) t ≡ true

-- the clause has just this literal that is not false
pub record IsLeft (t c : List Literal) (l : Literal) : Type 0 where
  pub in_clause : member l c ≡ true
  pub possible : member (negated l) t ≡ false
  pub others : (m : Literal) → member m c ≡ true → m ≢ l → member (negated m) t ≡ true

-- hints lead to a clause that is false: each clause before it has just one literal that is not false, and is not true
-- yet, which becomes true (Cruz-Filipe, Heule, Hunt, Kaufmann and Schneider-Kamp 2017)
pub data Leads (clauses : List (List Literal)) : List Literal → List ℕ → Type 0 where
  ends : (t : List Literal) (k : ℕ) → k < length clauses → IsFalse t (get_or clauses k []) → Leads clauses t (k ∷ [])
  goes : (t : List Literal) (k : ℕ) (l : Literal) (hints : List ℕ) → k < length clauses → IsLeft t (get_or clauses k []) l
      → member l t ≡ false → Leads clauses (t ++ l ∷ []) hints → Leads clauses t (k ∷ hints)

-- an entry is good behind these clauses: its variables are the formula's, and its hints lead on from the negations of
-- its literals
pub record IsGoodEntry (n : ℕ) (clauses : List (List Literal)) (e : Entry) : Type 0 where
  pub below : AllBelow n e.clause
  pub leads : Leads clauses (map negated e.clause) e.hints

-- the clauses before the entry number k: those of the formula, then those of earlier entries
abbrev pub clauses_before : List (List Literal) → List Entry → ℕ → List (List Literal)
clauses_before clauses list k = clauses ++ map (λ (e : Entry). e.clause) (take k list)

-- the entries before number k are good
abbrev pub AreGoodBefore : ℕ → List (List Literal) → List Entry → ℕ → Type 0
AreGoodBefore n clauses list k =
    (j : ℕ) (e : Entry) → j < k → slice_get list j ≡ Some e → IsGoodEntry n (clauses_before clauses list j) e

-- the last entry is the empty clause
abbrev pub EndsEmpty : List Entry → Type 0
EndsEmpty list = (k : ℕ) × (length list ≡ k + 1) × ((e : Entry) → slice_get list k ≡ Some e → e.clause ≡ [])

-- the list refutes the formula: all its entries are good, and the last one is empty
pub record IsRefutation (n : ℕ) (clauses : List (List Literal)) (list : List Entry) : Type 0 where
  pub good : AreGoodBefore n clauses list (length list)
  pub empty : EndsEmpty list
