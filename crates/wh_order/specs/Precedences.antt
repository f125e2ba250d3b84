-- The precedences of symbols and marked symbols, as filters give them.
use Rattle.std.specs.Prelude.{ℕ, ◌-◌, ◌≡◌, nat_lt, cond, length, Option, Some, None}
use Rattle.wh_terms.specs.Tree.{Tm, fun, head}
use Rattle.wh_order_extended.specs.Filtered.{precedences}
use Rattle.wh_order_node.specs.Filterings.{FilteringData, filter_among, mark_among}

-- the precedences of symbols and marked symbols, where there are as many symbols as filters of symbols
abbrev pub order_of : FilteringData → ℕ → ℕ
order_of D = precedences (λ f. cond (nat_lt f (length D.symbols)) (filter_among D.symbols f) (mark_among D.marks (f - length D.symbols)))

-- no symbol heads the tree, or one does that has this precedence
abbrev pub HeadOrder : FilteringData → Tm → Option ℕ → Type 0
HeadOrder D t None = (f : ℕ) → head t ≡ fun f → ⊥
HeadOrder D t (Some p) = (f : ℕ) × (head t ≡ fun f) × (order_of D f ≡ p)
