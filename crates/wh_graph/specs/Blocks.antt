-- What can be wrong with the blocks of a proof node, and what comes first. Blocks may list their numbers in any order:
-- sets are compared, and the order proves nothing.
use Rattle.std.specs.Prelude.{ℕ, ◌<◌, ◌≤◌, ◌≡◌, ◌⊎◌, List, [], length, Contains}
use Rattle.wh_graph.specs.Components.{StandsAt, IsIn, Partition}
use Rattle.wh_graph.specs.declared.blocks.BlockFault.{BlockFault}
use Rattle.wh_graph.specs.declared.blocks.BlockFault.TheVariants.{FewBlocks, NotPartition, BackEdge}

-- there are fewer than two blocks, or an empty one
abbrev pub AreFew : List (List ℕ) → Type 0
AreFew blocks = (length blocks < 2) ⊎ Contains blocks []

-- some block has the number
abbrev pub IsListed : List (List ℕ) → ℕ → Type 0
IsListed blocks n = (i : ℕ) × IsIn blocks i n

-- the number stands at two places
abbrev pub IsRepeated : List (List ℕ) → ℕ → Type 0
IsRepeated blocks n = (i j k m : ℕ) × StandsAt blocks i k n × StandsAt blocks j m n × ((i ≡ j) × (k ≡ m) → ⊥)

-- the number is listed more than once, or is listed and not in the set, or is in the set and not listed
abbrev pub IsMisplaced : List ℕ → List (List ℕ) → ℕ → Type 0
IsMisplaced set blocks n = IsRepeated blocks n ⊎ (IsListed blocks n × (Contains set n → ⊥)) ⊎ (Contains set n × (IsListed blocks n → ⊥))

-- a stands in a later block than b, and b may follow a
abbrev pub IsBackEdge : (ℕ → ℕ → Type 0) → List (List ℕ) → ℕ → ℕ → Type 0
IsBackEdge E blocks a b = (i j : ℕ) × (i < j) × IsIn blocks j a × IsIn blocks i b × E a b

-- the back edge with the least source, and of these the one with the least target
abbrev pub IsFirstBackEdge : (ℕ → ℕ → Type 0) → List (List ℕ) → ℕ → ℕ → Type 0
IsFirstBackEdge E blocks a b =
    IsBackEdge E blocks a b × ((c d : ℕ) → c < a → IsBackEdge E blocks c d → ⊥) × ((d : ℕ) → d < b → IsBackEdge E blocks a d → ⊥)

-- nothing is wrong (ours)
pub record AreBlocks (E : ℕ → ℕ → Type 0) (set : List ℕ) (blocks : List (List ℕ)) : Type 0 where
  -- there are at least two blocks
  pub enough : 2 ≤ length blocks
  -- no block is empty
  pub filled : Contains blocks [] → ⊥
  -- the blocks partition the set
  pub partition : Partition set blocks
  -- no number of an earlier block may follow one of a later block
  pub ordered : (i j a b : ℕ) → i < j → IsIn blocks j a → IsIn blocks i b → E a b → ⊥

-- the first thing wrong, in this order: too few blocks; the least misplaced number; the first back edge (ours)
abbrev pub IsFirstBlockFault : (ℕ → ℕ → Type 0) → List ℕ → List (List ℕ) → BlockFault → Type 0
IsFirstBlockFault E set blocks FewBlocks = AreFew blocks
IsFirstBlockFault E set blocks (NotPartition a) = (AreFew blocks → ⊥) × IsMisplaced set blocks a
    × ((n : ℕ) → n < a → IsMisplaced set blocks n → ⊥)
IsFirstBlockFault E set blocks (BackEdge a b) =
    (AreFew blocks → ⊥) × ((n : ℕ) → IsMisplaced set blocks n → ⊥) × IsFirstBackEdge E blocks a b
