-- What filters leave of symbols with arguments, as the program makes it.
use Rattle.std.specs.Prelude.{ℕ, ◌-◌, ◌≡◌, List, [], ◌∷◌, map, Some, slice_get}
use Rattle.wh_types.specs.Ty.{Ty}
use Rattle.wh_terms.specs.Tree.{spine}
use Rattle.wh_order_inference.specs.Filters.{Filter}
use Rattle.wh_order_inference.specs.FilterText.{WrittenFilter, keeps, picks}
use Rattle.wh_order_extended.specs.Kinds.{type_at}
use Rattle.wh_order_extended.specs.Filtered.{filtered, kept_type}
use Rattle.wh_order_node.specs.Filterings.{MarkFilter, IsProperAsWritten}
use Rattle.wh_order_trees.specs.declared.tree.Tree.{Tree}
use Rattle.wh_order_trees.specs.Trees.{tree, trees, IsHeadTree}
use Rattle.wh_order_trees.specs.TreeParts.{World, Over, AllOver}
use Rattle.wh_order.specs.declared.kept.Kept.{Kept}
use Rattle.wh_order.specs.declared.kept.Kept.TheVariants.{Arguments, Instead}

-- the trees ts are those of qs at the places
abbrev pub AreAt : List ℕ → List Tree → List Tree → Type 0
AreAt [] qs [] = Unit {0}
AreAt (i ∷ is) qs (t ∷ ts) = (slice_get qs i ≡ Some t) × AreAt is qs ts
AreAt _ qs _ = ⊥

-- the filter leaves this of a symbol with the arguments qs: some of them, or one in the place of the symbol
abbrev pub IsLeft : WrittenFilter → List Tree → Kept → Type 0
IsLeft (keeps p places) qs (Arguments ts) = AreAt (map (λ n. n - 1) places) qs ts
IsLeft (picks place) qs (Instead t) = slice_get qs (place - 1) ≡ Some t
IsLeft _ qs _ = ⊥

-- the tree u stands for the symbol f, whose filter is F, with the arguments qs, which have the types cs
pub record IsFiltered (n f : ℕ) (cs : List Ty) (F : Filter) (qs : List Tree) (u : Tree) : Type 0 where
  pub same : tree n u ≡ filtered F f (trees n qs)
  pub over : (w : World) → type_at w.symbols.funs f ≡ kept_type cs F → AllOver n w qs → Over n w u

-- each mark of the symbol f has a filter that is proper for arguments of these types
abbrev pub HasProperMark : List MarkFilter → ℕ → List Ty → Type 0
HasProperMark marks f cs = (i : ℕ) (m : MarkFilter) → slice_get marks i ≡ Some m → m.symbol ≡ f → IsProperAsWritten cs m.filter

-- the tree u stands for the head h, which is no symbol and no application, applied to qs
pub record IsSpineOf (h : Tree) (qs : List Tree) (u : Tree) : Type 0 where
  pub same : (n : ℕ) → tree n u ≡ spine (tree n h) (trees n qs)
  pub over : (n : ℕ) (w : World) → IsHeadTree h → Over n w h → AllOver n w qs → Over n w u
