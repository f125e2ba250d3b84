-- What a walk that stops early finds out: whether a tree keeps within bounds, and how much size it takes.
use Rattle.std.specs.Prelude.{ℕ, ◌+◌, ◌≤◌, ◌<◌, ◌≡◌, Option, Some, None}
use Rattle.wh_terms.specs.Tree.{Tm, Tms, none, more, argument_count}
use Rattle.wh_terms.specs.Measures.{height, risen, size, sizes, SpinesWithin, AllSpinesWithin}

-- the tree is at most `low` high, at most `room` large, and none of its spines has more than 32 arguments (ours)
pub record Keeps (low room : ℕ) (t : Tm) : Type 0 where
  pub low_enough : height t ≤ low
  pub narrow : SpinesWithin 32 t
  pub small : size t ≤ room

-- the tree begins a spine with `more_arguments` further arguments: its parts are at most `low` high, it is at most
-- `room` large, and no spine has more than 32 arguments, this one included (ours)
pub record KeepsAsFront (low more_arguments room : ℕ) (t : Tm) : Type 0 where
  pub low_enough : risen t (height t) ≤ low + 1
  pub narrow : SpinesWithin 32 t
  pub short : argument_count t + more_arguments ≤ 32
  pub small : size t ≤ room

-- each tree of the list is less than `low` high (ours)
abbrev pub AllBelow : ℕ → Tms → Type 0
AllBelow low none = Unit {0}
AllBelow low (more t ts) = (height t < low) × AllBelow low ts

-- the trees of the list are less than `low` high, at most `room` large together, and none of their spines has more than
-- 32 arguments (ours)
pub record AllKeep (low room : ℕ) (ts : Tms) : Type 0 where
  pub low_enough : AllBelow low ts
  pub narrow : AllSpinesWithin 32 ts
  pub small : sizes ts ≤ room

-- an answer that tells what is left of the room, or that the bounds P are not kept (ours)
abbrev pub Left : ℕ → ℕ → Type 0 → Option ℕ → Type 0
Left room used P None = P → ⊥
Left room used P (Some rest) = P × (rest + used ≡ room)
