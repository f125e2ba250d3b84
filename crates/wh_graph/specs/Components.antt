-- The components of a set of numbers, under a relation that says which may follow which. They stand in some order
-- without an edge back to an earlier one. It can't be asked besides that, of two without a way between them, the one
-- with the least number comes first: let 2 lead to 0, and 1 to neither; then 0 would stand before 1, 1 before 2, and 2
-- before 0.
use Rattle.std.specs.Prelude.{ℕ, ◌<◌, ◌≡◌, ◌↔◌, List, [], Some, Contains, slice_get}

-- one leads to another within the set, by zero or more steps of the relation
pub data Reaches (E : ℕ → ℕ → Type 0) (set : List ℕ) : (a b : ℕ) → Type 0 where
  here : {a : ℕ} → Contains set a → Reaches E set a a
  step : {a b c : ℕ} → Contains set a → E a b → Reaches E set b c → Reaches E set a c

-- `StandsAt blocks i k n`: n is number k of block i
abbrev pub StandsAt : List (List ℕ) → ℕ → ℕ → ℕ → Type 0
StandsAt blocks i k n = (block : List ℕ) × (slice_get blocks i ≡ Some block) × (slice_get block k ≡ Some n)

-- n is in block i
abbrev pub IsIn : List (List ℕ) → ℕ → ℕ → Type 0
IsIn blocks i n = (k : ℕ) × StandsAt blocks i k n

-- the blocks partition the set: each is part of it, each number of it stands in them, and none stands twice
pub record Partition (set : List ℕ) (blocks : List (List ℕ)) : Type 0 where
  pub within : (i n : ℕ) → IsIn blocks i n → Contains set n
  pub whole : (n : ℕ) → Contains set n → (i : ℕ) × IsIn blocks i n
  pub once : (i j k m n : ℕ) → StandsAt blocks i k n → StandsAt blocks j m n → (i ≡ j) × (k ≡ m)

-- the components of the set: the classes of mutual reachability within it, of which no earlier one may follow a later
-- one (Fuhs and Kop 2019)
pub record AreComponents (E : ℕ → ℕ → Type 0) (set : List ℕ) (blocks : List (List ℕ)) : Type 0 where
  pub partition : Partition set blocks
  -- no block is empty
  pub filled : Contains blocks [] → ⊥
  -- two numbers are in one block exactly where each reaches the other
  pub classes : (i j a b : ℕ) → IsIn blocks i a → IsIn blocks j b → (i ≡ j) ↔ (Reaches E set a b × Reaches E set b a)
  -- no pair of an earlier block may follow one of a later block
  pub ordered : (i j a b : ℕ) → i < j → IsIn blocks j a → IsIn blocks i b → E a b → ⊥
