-- Views of a tree: what heads it, with the bits of that symbol, and its arguments.
use Rattle.std.specs.Prelude.{ℕ, ◌≡◌, true, List, length, map, Option, None, Some, slice_get}
use Rattle.std.specs.Borrow.{Bor}
use Rattle.wh_terms.specs.Tree.{Tm, fun, head}
use Rattle.wh_terms.specs.Erase.{tm}
use Rattle.wh_terms.specs.declared.term.Term.{Term}
use Rattle.wh_order_path.specs.Heads.{arguments_of}
use Rattle.wh_order_path.specs.Verdict.{is_other_head}
use Rattle.wh_order_demands.specs.declared.view.Spot.{Spot}
use Rattle.wh_order_demands.specs.declared.view.View.{View}
use Rattle.wh_order_demands.specs.declared.view.View.TheVariants as view

abbrev pub items_data : List (Bor Term) → List Tm
items_data = map (λ t. tm t.now)

-- a symbol heads the tree, which has these arguments, as many as the symbol has places, the bits of which begin with x
pub record IsCallOf (spots : List (Option Spot)) (t : Tm) (symbol x : ℕ) (items : List Tm) : Type 0 where
  pub headed : head t ≡ fun symbol
  pub items_are : arguments_of t ≡ items
  pub spot : slice_get spots symbol ≡ Some (Some (record { first = x; places = length items }))

-- the view says what heads the tree
abbrev pub IsView : List (Option Spot) → Tm → View → Type 0
IsView spots t (view.Call c) = IsCallOf spots t c.symbol c.first (items_data c.items.items)
IsView spots t view.Unknown = Unit {0}
IsView spots t view.Other = is_other_head (head t) ≡ true

-- the symbol that heads a tree, or none does
abbrev pub IsHeadSymbol : Tm → Option ℕ → Type 0
IsHeadSymbol h None = is_other_head h ≡ true
IsHeadSymbol h (Some f) = h ≡ fun f

-- where the bits of a symbol stand
abbrev pub IsSpotOf : List (Option Spot) → ℕ → Option Spot → Type 0
IsSpotOf spots f None = Unit {0}
IsSpotOf spots f (Some spot) = slice_get spots f ≡ Some (Some spot)
