-- The precedence of the symbol that heads a tree.
use Rattle.std.proofs.Common.{◌≡◌, ℕ, zero, suc, ◌+◌, ◌-◌, ◌<◌, ◌≤◌, List, [], ◌∷◌, length, map, drop, get_or, Some, None, cond, refl, ap, sym, ◌∙◌, arith}
use Rattle.std.proofs.lemmas.Bool.{lt-ltb, le-ltb, eq-eqb, ne_eqb}
use Rattle.wh_terms.specs.Tree.{fun, head}
use Rattle.wh_step_laws.proofs.Candidates.{head-spine}
use Rattle.wh_order_inference.specs.declared.filter.Filter.{Filter}
use Rattle.wh_order_inference.specs.FilterText.{filter_of}
use Rattle.wh_order_inference.specs.Said.{written_filter}
use Rattle.wh_order_extended.specs.Filtered.{precedence}
use Rattle.wh_order_node.specs.declared.filters.MarkFilter.{MarkFilter}
use Rattle.wh_order_node.specs.FilteringView.{mark_filter}
use Rattle.wh_order_node.specs.Filterings.{FilteringData, filter_among, mark_among, unfiltered}
use Rattle.wh_order_trees.specs.declared.tree.Tree.{Tree, Sym, Mark}
use Rattle.wh_order_trees.specs.Trees.{tree, trees}
use Rattle.wh_order_trees.specs.TreeParts.{World, Over}
use Rattle.wh_order_trees.proofs.TreeLemmas.{tree_of_sym, tree_of_mark, over_of_sym}
use Rattle.wh_order_trees.proofs.PartLemmas.{IsOtherTree, no_symbol}
use Rattle.wh_order.specs.Precedences.{HeadOrder}

pub symbol_order : (D : FilteringData) (t : Tree) (f : ℕ) (ts : List Tree) (p : ℕ) → t ≡ Sym f ts → p ≡ precedence (filter_among D.symbols f)
    → (w : World) → Over (length D.symbols) w t → HeadOrder D (tree (length D.symbols) t) (Some p)
symbol_order D t f ts p e is w o = (
  f,
  ap head (tree_of_sym (length D.symbols) t f ts e) ∙ head-spine (fun f) (trees (length D.symbols) ts),
  ap (λ b. precedence (cond b (filter_among D.symbols f) (mark_among D.marks (f - length D.symbols)))) (lt-ltb f (length D.symbols) (over_of_sym (length D.symbols) w t f ts e o).0) ∙ sym is,
)

pub mark_order : (D : FilteringData) (t : Tree) (f : ℕ) (ts : List Tree) (p : ℕ) → t ≡ Mark f ts → p ≡ precedence (mark_among D.marks f)
    → (w : World) → Over (length D.symbols) w t → HeadOrder D (tree (length D.symbols) t) (Some p)
mark_order D t f ts p e is w o = (
  length D.symbols + f,
  ap head (tree_of_mark (length D.symbols) t f ts e) ∙ head-spine (fun (length D.symbols + f)) (trees (length D.symbols) ts),
  ap (λ b. precedence (cond b (filter_among D.symbols (length D.symbols + f)) (mark_among D.marks (length D.symbols + f - length D.symbols)))) (le-ltb (length D.symbols + f) (length D.symbols) (omega arith))
      ∙ ap (λ k. precedence (mark_among D.marks k)) (omega arith) ∙ sym is,
)

pub no_order : (D : FilteringData) (t : Tree) → IsOtherTree t → (w : World) → Over (length D.symbols) w t → HeadOrder D (tree (length D.symbols) t) None
no_order D t h w o = no_symbol (length D.symbols) t h w o

pub filter_read : (fs : List Filter) (f : ℕ) (x : Filter) → f < length fs → x ≡ get_or fs f x → filter_among (map written_filter fs) f ≡ filter_of (written_filter x)
filter_read [] f x within e = absurd (omega arith)
filter_read (y ∷ fs) zero x within e = ap (λ (z : Filter). filter_of (written_filter z)) (sym e)
filter_read (y ∷ fs) (suc f) x within e = filter_read fs f x (omega arith) e

pub filter_past : (fs : List Filter) (f : ℕ) → length fs ≤ f → precedence (filter_among (map written_filter fs) f) ≡ 0
filter_past [] f past = refl
filter_past (y ∷ fs) zero past = absurd (omega arith)
filter_past (y ∷ fs) (suc f) past = filter_past fs f (omega arith)

-- the marks before the place have other symbols
abbrev pub MarksFrom : List MarkFilter → ℕ → ℕ → Type 0
MarksFrom ms s i = mark_among (map mark_filter ms) s ≡ mark_among (map mark_filter (drop i ms)) s

mark_drop : (ms : List MarkFilter) (i : ℕ) (m : MarkFilter) → i < length ms → m ≡ get_or ms i m → drop i ms ≡ m ∷ drop (i + 1) ms
mark_drop [] i m within e = absurd (omega arith)
mark_drop (x ∷ ms) zero m within e = ap (λ (y : MarkFilter). y ∷ ms) (sym e)
mark_drop (x ∷ ms) (suc i) m within e =
    let next : suc (i + 1) ≡ suc i + 1 = omega arith in
    mark_drop ms i m (omega arith) e ∙ ap (λ (k : ℕ). m ∷ drop k (x ∷ ms)) next

pub mark_here : (ms : List MarkFilter) (s i : ℕ) (m : MarkFilter) → MarksFrom ms s i → i < length ms → m ≡ get_or ms i m → m.symbol ≡ s
    → mark_among (map mark_filter ms) s ≡ filter_of (written_filter m.filter)
mark_here ms s i m before within e same =
    before ∙ ap (λ (xs : List MarkFilter). mark_among (map mark_filter xs) s) (mark_drop ms i m within e)
    ∙ ap (λ b. cond b (filter_of (written_filter m.filter)) (mark_among (map mark_filter (drop (i + 1) ms)) s)) (eq-eqb m.symbol s same)

pub mark_next : (ms : List MarkFilter) (s i : ℕ) (m : MarkFilter) → MarksFrom ms s i → i < length ms → m ≡ get_or ms i m → (m.symbol ≡ s → ⊥) → MarksFrom ms s (i + 1)
mark_next ms s i m before within e other =
    before ∙ ap (λ (xs : List MarkFilter). mark_among (map mark_filter xs) s) (mark_drop ms i m within e)
    ∙ ap (λ b. cond b (filter_of (written_filter m.filter)) (mark_among (map mark_filter (drop (i + 1) ms)) s)) (ne_eqb m.symbol s other)

marks_past : (ms : List MarkFilter) (s i : ℕ) → length ms ≤ i → mark_among (map mark_filter (drop i ms)) s ≡ unfiltered
marks_past [] s zero past = refl
marks_past [] s (suc i) past = refl
marks_past (m ∷ ms) s zero past = absurd (omega arith)
marks_past (m ∷ ms) s (suc i) past = marks_past ms s i (omega arith)

pub mark_end : (ms : List MarkFilter) (s i : ℕ) → MarksFrom ms s i → length ms ≤ i → mark_among (map mark_filter ms) s ≡ unfiltered
mark_end ms s i before past = before ∙ marks_past ms s i past
