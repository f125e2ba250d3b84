-- Graphs as lists: for each vertex the vertices that edges lead to from it.
use Rattle.std.specs.Prelude.{ℕ, ◌<◌, ◌≡◌, ◌^◌, ◌↔◌, List, Some, length, slice_get, Contains}
use Rattle.wh_terms.specs.Rules.{RewriteRule}
use Rattle.wh_pairs.specs.PairData.{PairData}
use Rattle.wh_graph.specs.May.{Follows}
use Rattle.wh_graph.specs.declared.edges.Graph.{Graph}

-- the list of a has b
abbrev pub Edge : List (List ℕ) → ℕ → ℕ → Type 0
Edge rows a b = (row : List ℕ) × (slice_get rows a ≡ Some row) × Contains row b

-- each edge leads to a vertex that has a list
abbrev pub AreWithin : List (List ℕ) → Type 0
AreWithin rows = (a b : ℕ) → Edge rows a b → b < length rows

-- the relation, from its ends to its beginnings
abbrev pub Turned : (ℕ → ℕ → Type 0) → ℕ → ℕ → Type 0
Turned E a b = E b a

-- the relation of the members that stand at two places of the set
abbrev pub AtPlaces : (ℕ → ℕ → Type 0) → List ℕ → ℕ → ℕ → Type 0
AtPlaces E set u v = (a b : ℕ) × (slice_get set u ≡ Some a) × (slice_get set v ≡ Some b) × E a b

-- n lists, which have the relation's edges and no others
pub record AreLists (E : ℕ → ℕ → Type 0) (n : ℕ) (rows : List (List ℕ)) : Type 0 where
  pub size : length rows ≡ n
  pub each : (a b : ℕ) → Edge rows a b ↔ E a b

-- an edge of the graph leads from a to b
abbrev pub edge_of : Graph → ℕ → ℕ → Type 0
edge_of g = Edge g.followers.items

-- how many vertices there are
abbrev pub size_of : Graph → ℕ
size_of g = length g.followers.items

-- the second lists of the graph have the edges of the first turned round, and fewer than 2^32 vertices
pub record IsGraph (g : Graph) : Type 0 where
  pub within : AreWithin g.followers.items
  pub leaders : AreLists (Turned (edge_of g)) (size_of g) g.leaders.items
  pub few : size_of g < 2 ^ 32

-- the graph is the one of a list of pairs: an edge leads from each to those that may follow it (Fuhs and Kop 2019)
pub record IsGraphOf (rules : List RewriteRule) (pairs : List PairData) (g : Graph) : Type 0 where
  pub graph : IsGraph g
  pub size : size_of g ≡ length pairs
  pub each : (a b : ℕ) → edge_of g a b ↔ Follows rules pairs a b

-- P holds of what each list has before its place
pub record HavePassed (P : ℕ → Type 0) (rows : List (List ℕ)) (places : List ℕ) : Type 0 where
  pub size : length places ≡ length rows
  pub each : (v p k w : ℕ) (row : List ℕ) → slice_get places v ≡ Some p → slice_get rows v ≡ Some row
      → k < p → slice_get row k ≡ Some w → P w
