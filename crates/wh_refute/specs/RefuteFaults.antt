-- The first fault of a list of clauses with hints.
use Rattle.std.specs.Prelude.{◌≡◌, ◌≢◌, ℕ, suc, ◌<◌, ◌≤◌, true, false, List, [], ◌∷◌, ◌++◌, length, get_or, map, Option, Some, None, slice_get}
use Rattle.wh_sat_trail.specs.declared.literal.Literal.{Literal}
use Rattle.wh_sat_trail.specs.declared.entry.Entry.{Entry}
use Rattle.wh_sat_trail.specs.Assignment.{AllBelow, negated}
use Rattle.wh_sat_trail.specs.Member.{member}
use Rattle.wh_refute.specs.Refuting.{IsFalse, IsLeft, AreGoodBefore, EndsEmpty, clauses_before}
use Rattle.wh_refute.specs.declared.fault.RefuteFault.{RefuteFault}
use Rattle.wh_refute.specs.declared.fault.RefuteFault.TheVariants.{BadLiteral, BadHint, Open, NoEmpty}

-- the clause makes no literal true and is not false: two of its literals are not false, or one is, which is true
-- already
pub data IsStuck (t c : List Literal) : Type 0 where
  two_left : (l m : Literal) → member l c ≡ true → member m c ≡ true → l ≢ m → member (negated l) t ≡ false
      → member (negated m) t ≡ false → IsStuck t c
  true_already : (l : Literal) → IsLeft t c l → member l t ≡ true → IsStuck t c

-- where hints go wrong, the first of them being counted as number `at`: the number of the first one that names no
-- clause, or a false one though it is not the last hint, or one that is stuck; none where they end and no clause was
-- false (ours)
pub data Strays (clauses : List (List Literal)) : ℕ → List Literal → List ℕ → Option ℕ → Type 0 where
  names_none : (at : ℕ) (t : List Literal) (k : ℕ) (hints : List ℕ) → length clauses ≤ k → Strays clauses at t (k ∷ hints) (Some at)
  false_too_early : (at : ℕ) (t : List Literal) (k h : ℕ) (hints : List ℕ) → k < length clauses → IsFalse t (get_or clauses k [])
      → Strays clauses at t (k ∷ h ∷ hints) (Some at)
  gets_stuck : (at : ℕ) (t : List Literal) (k : ℕ) (hints : List ℕ) → k < length clauses → IsStuck t (get_or clauses k [])
      → Strays clauses at t (k ∷ hints) (Some at)
  stays_open : (at : ℕ) (t : List Literal) → Strays clauses at t [] None
  later : (at : ℕ) (t : List Literal) (k : ℕ) (l : Literal) (hints : List ℕ) (f : Option ℕ) → k < length clauses
      → IsLeft t (get_or clauses k []) l → member l t ≡ false → Strays clauses (suc at) (t ++ l ∷ []) hints f
      → Strays clauses at t (k ∷ hints) f

-- some literal's variable is none of the formula's
abbrev pub HasForeign : ℕ → List Literal → Type 0
HasForeign n c = (l : Literal) × (member l c ≡ true) × (n ≤ l.variable)

-- the entry number k comes behind good ones; its variables are the formula's, and its hints go wrong there
pub record StraysAt (n : ℕ) (clauses : List (List Literal)) (list : List Entry) (k : ℕ) (f : Option ℕ) : Type 0 where
  pub good : AreGoodBefore n clauses list k
  pub entry : Entry
  pub is : slice_get list k ≡ Some entry
  pub below : AllBelow n entry.clause
  pub strays : Strays (clauses_before clauses list k) 0 (map negated entry.clause) entry.hints f

-- the first fault of a list: of its entries in order first a literal, then a hint, then that no hint's clause was
-- false; at last that the list does not end with the empty clause (ours)
abbrev pub IsFirstRefuteFault : ℕ → List (List Literal) → List Entry → RefuteFault → Type 0
IsFirstRefuteFault n clauses list (BadLiteral k) =
    AreGoodBefore n clauses list k × (e : Entry) × (slice_get list k ≡ Some e) × HasForeign n e.clause
IsFirstRefuteFault n clauses list (BadHint k h) = StraysAt n clauses list k (Some h)
IsFirstRefuteFault n clauses list (Open k) = StraysAt n clauses list k None
IsFirstRefuteFault n clauses list NoEmpty = AreGoodBefore n clauses list (length list) × (EndsEmpty list → ⊥)
