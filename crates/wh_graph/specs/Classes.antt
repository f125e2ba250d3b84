-- Classes of vertices, each told by a number, while the strongly connected components are found.
use Rattle.std.specs.Prelude.{ℕ, ◌<◌, ◌≤◌, ◌≡◌, ◌⊎◌, ◌↔◌, List, Option, Some, None, length, slice_get, Contains}
use Rattle.wh_pairs.specs.PairData.{IsIncreasing}
use Rattle.wh_graph.specs.Walks.{Path}

-- the vertex v has the class c
abbrev pub HasClass : List (Option ℕ) → ℕ → ℕ → Type 0
HasClass of v c = slice_get of v ≡ Some (Some c)

-- the vertex has a class
abbrev pub IsPlaced : List (Option ℕ) → ℕ → Type 0
IsPlaced of v = (c : ℕ) × HasClass of v c

-- no vertex has the class
abbrev pub IsNew : ℕ → List (Option ℕ) → Type 0
IsNew number of = (v : ℕ) → HasClass of v number → ⊥

-- the class `number` was given to the root, to vertices without a class that reach it, and so to every one that leads
-- to one of the class and had none
pub record Grown (E : ℕ → ℕ → Type 0) (root number : ℕ) (old new : List (Option ℕ)) : Type 0 where
  pub size : length new ≡ length old
  pub kept : (v c : ℕ) → HasClass old v c → HasClass new v c
  pub given : (v c : ℕ) → HasClass new v c → HasClass old v c ⊎ ((c ≡ number) × (slice_get old v ≡ Some None) × Path E v root)
  pub root_has : HasClass new root number
  pub closed : (x y : ℕ) → HasClass new x number → E y x → (d : ℕ) × HasClass new y d

-- what is known of the classes given so far, from 0 up to `count`: each edge to a vertex with a class comes from one
-- with the same or a smaller class, two vertices of one class reach each other, and each class has a vertex
pub record AreGiven (E : ℕ → ℕ → Type 0) (n count : ℕ) (of : List (Option ℕ)) : Type 0 where
  pub size : length of ≡ n
  pub below : (v c : ℕ) → HasClass of v c → c < count
  pub back : (x y c : ℕ) → E y x → HasClass of x c → (d : ℕ) × HasClass of y d × (d ≤ c)
  pub together : (x y c : ℕ) → HasClass of x c → HasClass of y c → Path E x y
  pub filled : (c : ℕ) → c < count → (v : ℕ) × HasClass of v c

-- all classes are given
pub record AreClasses (E : ℕ → ℕ → Type 0) (n count : ℕ) (of : List (Option ℕ)) : Type 0 where
  pub given : AreGiven E n count of
  pub all : (v : ℕ) → v < n → (c : ℕ) × HasClass of v c

-- the block has, in increasing order, the numbers of the set before place i whose places have the class
pub record IsClass (set : List ℕ) (of : List (Option ℕ)) (number i : ℕ) (block : List ℕ) : Type 0 where
  pub increasing : IsIncreasing block
  pub members : (n : ℕ) → Contains block n ↔ ((v : ℕ) × (v < i) × (slice_get set v ≡ Some n) × HasClass of v number)

-- there is a block for each class, with the numbers before place i of the set
pub record AreGathered (set : List ℕ) (of : List (Option ℕ)) (count i : ℕ) (blocks : List (List ℕ)) : Type 0 where
  pub size : length blocks ≡ count
  pub each : (c : ℕ) (block : List ℕ) → slice_get blocks c ≡ Some block → IsClass set of c i block
