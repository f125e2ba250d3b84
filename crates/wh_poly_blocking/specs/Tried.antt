-- Lists of clauses on the bits of coefficients that a search by guesses makes: each shuts out a guess under which a
-- condition fails, or follows from those before it.
use Rattle.std.specs.Prelude.{ℕ, suc, ◌<◌, ◌≤◌, ◌≡◌, ◌⊎◌, ◌↔◌, Bool, false, List, [], length, map, take, get_or}
use Rattle.wh_reduction_pairs.specs.TaskData.{TaskData}
use Rattle.wh_polycheck.specs.Readings.{ReadingsData}
use Rattle.wh_sat_trail.specs.declared.literal.Literal.{Literal}
use Rattle.wh_sat.specs.Learning.{Has, IsLearnt}
use Rattle.wh_sat.specs.Solving.{Solves, literal_true}
use Rattle.wh_poly_guesses.specs.Coefficients.{scopes_of, HaveCoefficients}
use Rattle.wh_poly_guesses.specs.Conditions.{Condition, IsCondition, UsesNumber, Meets}
use Rattle.wh_poly_blocking.specs.Bits.{first_bit, bit_count, lists_by}

module _ (T : TaskData) (marked : List ℕ) where
  -- the bit is one of a coefficient of a symbol in the condition
  abbrev pub IsBitOf : Condition → ℕ → Type 0
  IsBitOf c x =
      (n : ℕ) × UsesNumber T marked c n × (first_bit (scopes_of T marked) n ≤ x) × (x < first_bit (scopes_of T marked) (suc n))

  -- the readings of all symbols and of the marked ones are those that the bits write (ours)
  pub record AreWritten (v : ℕ → Bool) (R : ReadingsData) : Type 0 where
    pub kinds : map (λ s. s.kind) R.symbols ≡ T.symbols.funs
    pub marked_are : map (λ m. m.symbol) R.marks ≡ marked
    pub coefficients : HaveCoefficients T (lists_by v (scopes_of T marked)) R

  -- a blocked clause: there is a guess under which all earlier clauses are true and a condition fails, and the clause
  -- has just the literals that are false under it, over the bits of the symbols in the condition (ours)
  pub record IsBlocked (earlier : List (List Literal)) (clause : List Literal) : Type 0 where
    pub guess : ℕ → Bool
    pub allowed : Solves guess earlier
    pub readings : ReadingsData
    pub written : AreWritten guess readings
    pub number : ℕ
    pub condition : Condition
    pub is : IsCondition T number condition
    pub fails : Meets T readings condition → ⊥
    pub literals : (l : Literal) → Has clause l ↔ (IsBitOf condition l.variable × (literal_true guess l ≡ false))

  -- each clause of the list is blocked, or can be learnt from those before it
  abbrev pub Tried : List (List Literal) → Type 0
  Tried list = (k : ℕ) → k < length list
      → IsBlocked (take k list) (get_or list k []) ⊎ IsLearnt (bit_count (scopes_of T marked)) (take k list) (get_or list k [])
