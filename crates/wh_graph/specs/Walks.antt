-- Walks of a graph in depth: what is known while one goes on, and of the order in which it leaves the vertices.
use Rattle.std.specs.Prelude.{ℕ, ◌<◌, ◌≤◌, ◌≡◌, ◌⊎◌, Bool, true, List, Some, length, slice_get, Contains}

-- a path of zero or more edges
pub data Path (E : ℕ → ℕ → Type 0) : (a b : ℕ) → Type 0 where
  stay : {a : ℕ} → Path E a a
  go : {a b c : ℕ} → E a b → Path E b c → Path E a c

-- the vertex was seen
abbrev pub IsSeen : List Bool → ℕ → Type 0
IsSeen seen v = slice_get seen v ≡ Some true

-- w stands in the list at place i or before
abbrev pub StandsUpTo : List ℕ → ℕ → ℕ → Type 0
StandsUpTo list i w = (k : ℕ) × (k ≤ i) × (slice_get list k ≡ Some w)

-- when a vertex is left, each edge from it or from one left before leads to one left by then, or to one from which a
-- path leads back to it
abbrev pub IsLeftInOrder : (ℕ → ℕ → Type 0) → List ℕ → Type 0
IsLeftInOrder E left = (i j y u w : ℕ) → slice_get left i ≡ Some y → j ≤ i → slice_get left j ≡ Some u → E u w
    → StandsUpTo left i w ⊎ Path E w y

-- the vertices that a walk in depth has seen are those that it has left, and those on its stack, which is a path
pub record Walked (E : ℕ → ℕ → Type 0) (n : ℕ) (seen : List Bool) (stack left : List ℕ) : Type 0 where
  pub size : length seen ≡ n
  pub seen_are : (w : ℕ) → slice_get seen w ≡ Some true → Contains left w ⊎ Contains stack w
  pub left_seen : (w : ℕ) → Contains left w → slice_get seen w ≡ Some true
  pub stack_seen : (w : ℕ) → Contains stack w → slice_get seen w ≡ Some true
  pub path : (j k u w : ℕ) → j ≤ k → slice_get stack j ≡ Some u → slice_get stack k ≡ Some w → Path E u w
  pub apart : (w : ℕ) → Contains left w → Contains stack w → ⊥
  pub once_on_stack : (j k w : ℕ) → slice_get stack j ≡ Some w → slice_get stack k ≡ Some w → j ≡ k
  pub once_left : (j k w : ℕ) → slice_get left j ≡ Some w → slice_get left k ≡ Some w → j ≡ k
  pub closed : (u w : ℕ) → Contains left u → E u w → slice_get seen w ≡ Some true
  pub ordered : IsLeftInOrder E left

-- the order in which a walk in depth of the whole graph leaves the vertices
pub record IsLeavingOrder (E : ℕ → ℕ → Type 0) (n : ℕ) (order : List ℕ) : Type 0 where
  pub within : (v : ℕ) → Contains order v → v < n
  pub whole : (v : ℕ) → v < n → Contains order v
  pub once : (j k w : ℕ) → slice_get order j ≡ Some w → slice_get order k ≡ Some w → j ≡ k
  pub ordered : IsLeftInOrder E order
