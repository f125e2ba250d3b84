-- What the arguments of two symbols have to meet, as the program keeps it.
use Rattle.std.specs.Prelude.{ℕ, ◌+◌, ◌≡◌, ◌==◌, if◌then◌else◌, List, length}
use Rattle.wh_terms.specs.Tree.{Tm}
use Rattle.wh_terms.specs.Erase.{tm}
use Rattle.wh_terms.specs.declared.term.Term.{Term}
use Rattle.wh_order_demands.specs.declared.claim.Claim.TheVariants as claim
use Rattle.wh_order_demands.specs.declared.plan.Order.{Order}
use Rattle.wh_order_demands.specs.declared.plan.Whole.{Whole}
use Rattle.wh_order_demands.specs.declared.view.Call.{Call}
use Rattle.wh_order_demands.specs.Claims.{order_bit}
use Rattle.wh_order_demands.specs.Views.{items_data}
use Rattle.wh_order_demands.specs.Plans.{OrderData, AllData, free, same_symbol, other_symbol, right_parts, pair_parts, order_data, whole_data}

-- how symbols compare that head two trees, of which s is the left one: f with the first bit x and arguments ss, and g
-- with y and ts
abbrev pub compared : Tm → (f x g y : ℕ) → (ss ts : List Tm) → OrderData
compared s f x g y ss ts =
    if f == g then same_symbol (pair_parts x x claim.Greater ss ts)
    else other_symbol (length ts + y) (length ts) (order_bit (length ss) x g) (order_bit (length ts) y f) (right_parts y y claim.PartGreater s ts)

-- the condition of a left tree above a right one, part by part: the left symbol picks nothing, the left tree is above
-- each argument on the right, and the symbols compare
abbrev pub all_above : Tm → (f x g y : ℕ) → (ss ts : List Tm) → AllData
all_above s f x g y ss ts = record { first = length ss + x; count = length ss; parts = right_parts y (length ts + y) claim.Above s ts; order = compared s f x g y ss ts }

-- the condition of two equal trees that one symbol heads, part by part
abbrev pub all_equal : (x : ℕ) → (ss ts : List Tm) → AllData
all_equal x ss ts = record { first = 0; count = 0; parts = pair_parts x (length ss + x) claim.Equal ss ts; order = free }

abbrev pub IsCompared : Term → Call → Call → Order → Type 0
IsCompared s f g made = order_data made ≡ compared (tm s) f.symbol f.first g.symbol g.first (items_data f.items.items) (items_data g.items.items)

abbrev pub IsAllAbove : Term → Call → Call → Whole → Type 0
IsAllAbove s f g made = whole_data made ≡ all_above (tm s) f.symbol f.first g.symbol g.first (items_data f.items.items) (items_data g.items.items)

abbrev pub IsAllEqual : Call → Call → Whole → Type 0
IsAllEqual f g made = whole_data made ≡ all_equal f.first (items_data f.items.items) (items_data g.items.items)
