-- Trees that are built as long as there is room for their nodes.
use Rattle.std.specs.Prelude.{ℕ, ◌+◌, ◌≡◌, ◌<◌, Result}
use Rattle.wh_types.specs.Outcome.{MatchOr}
use Rattle.wh_types.specs.declared.want.Or.{Or}
use Rattle.wh_terms.specs.Tree.{Tm, Tms}
use Rattle.wh_terms.specs.Erase.{tm, tms}
use Rattle.wh_terms.specs.Measures.{size, sizes}
use Rattle.wh_order_sides.specs.declared.room.TooWide.{TooWide}
use Rattle.wh_order_sides.specs.declared.room.Built.{Built}
use Rattle.wh_order_sides.specs.declared.room.BuiltTerms.{BuiltTerms}

-- the term is the tree, whose size is what the room lost (ours)
pub record IsBuilt (room : ℕ) (t : Tm) (b : Built) : Type 0 where
  pub same : tm b.term ≡ t
  pub left : b.room + size t ≡ room

-- the call built the tree, or the tree is larger than the room (ours)
abbrev pub Builds : ℕ → Tm → Result Built (Or TooWide) → Type 0
Builds room t r = MatchOr r (IsBuilt room t) (λ _. room < size t)

-- the trees of a list, built, and the room that is left (ours)
pub record AreBuilt (room : ℕ) (ts : Tms) (b : BuiltTerms) : Type 0 where
  pub same : tms b.items ≡ ts
  pub left : b.room + sizes ts ≡ room

abbrev pub BuildsAll : ℕ → Tms → Result BuiltTerms (Or TooWide) → Type 0
BuildsAll room ts r = MatchOr r (AreBuilt room ts) (λ _. room < sizes ts)
