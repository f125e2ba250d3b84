-- Lists of clauses on the bits of orders that a search by guesses makes: each shuts out a guess under which a condition
-- fails, or follows from those before it.
use Rattle.std.specs.Prelude.{ℕ, suc, ◌<◌, ◌≤◌, ◌≡◌, ◌⊎◌, ◌↔◌, Bool, false, List, [], length, take, get_or}
use Rattle.wh_reduction_pairs.specs.TaskData.{TaskData}
use Rattle.wh_order_inference.specs.FilterText.{WrittenFilter}
use Rattle.wh_order_node.specs.Filterings.{FilteringData}
use Rattle.wh_sat_trail.specs.declared.literal.Literal.{Literal}
use Rattle.wh_sat.specs.Learning.{Has, IsLearnt}
use Rattle.wh_sat.specs.Solving.{Solves, literal_true}
use Rattle.wh_poly_guesses.specs.Coefficients.{scopes_of}
use Rattle.wh_poly_guesses.specs.Conditions as g
use Rattle.wh_poly_guesses.specs.Conditions.{IsCondition, UsesNumber}
use Rattle.wh_order_space.specs.Space.{Meets}
use Rattle.wh_order_space.specs.Bits.{precedence_bits, bit_count, bit_from, IsFilterBy, IsWritten}

-- a condition: that the bits of a symbol write a proper filter and a precedence that is tried; or one on the lines of
-- rules and pairs (ours)
pub data Condition : Type 0 where
  proper : (n : ℕ) → Condition
  line : (c : g.Condition) → Condition

module _ (T : TaskData) (marked : List ℕ) where
  -- the condition is one of the set: its symbol is one of those that are numbered, or its line is that of a rule or of
  -- a pair
  abbrev pub IsOfSet : Condition → Type 0
  IsOfSet (proper n) = n < length (scopes_of T marked)
  IsOfSet (line c) = (k : ℕ) × IsCondition T k c

  -- the symbol with this number is used in the condition
  abbrev pub Uses : Condition → ℕ → Type 0
  Uses (proper m) n = n ≡ m
  Uses (line c) n = UsesNumber T marked c n

  -- the bit is one of a symbol that is used in the condition
  abbrev pub IsBitOf : Condition → ℕ → Type 0
  IsBitOf c x = (n : ℕ) × Uses c n × (bit_from T marked n ≤ x) × (x < bit_from T marked (suc n))

  -- under these bits the condition fails. That of a line fails where the bits write an order and it does not hold under
  -- that one: where they write none, a symbol is at fault
  abbrev pub FailsUnder : (ℕ → Bool) → Condition → Type 0
  FailsUnder v (proper n) = (f : WrittenFilter) → IsFilterBy T marked v n f → ⊥
  FailsUnder v (line c) = (D : FilteringData) × IsWritten T marked v D × (Meets T D c → ⊥)

  -- a blocked clause: there is a guess under which all earlier clauses are true and a condition fails, and the clause
  -- has just the literals that are false under it, over the bits of the symbols in the condition (ours)
  pub record IsBlocked (earlier : List (List Literal)) (clause : List Literal) : Type 0 where
    pub guess : ℕ → Bool
    pub allowed : Solves guess earlier
    pub condition : Condition
    pub of_set : IsOfSet condition
    pub fails : FailsUnder guess condition
    pub literals : (l : Literal) → Has clause l ↔ (IsBitOf condition l.variable × (literal_true guess l ≡ false))

  -- each clause of the list is blocked, or can be learnt from those before it
  abbrev pub Tried : List (List Literal) → Type 0
  Tried list = (k : ℕ) → k < length list
      → IsBlocked (take k list) (get_or list k []) ⊎ IsLearnt (bit_count (precedence_bits T marked) (scopes_of T marked)) (take k list) (get_or list k [])
