-- The least numbers of entries of inferences for the goals of the program, and choices by them.
use Rattle.std.specs.Prelude.{ℕ, ◌≡◌, ◌<◌, ◌≤◌, ◌⊎◌, length, Option, None, Some}
use Rattle.wh_order_node.specs.Filterings.{FilteringData}
use Rattle.wh_order_trees.specs.TreeParts.{World}
use Rattle.wh_order.specs.declared.goals.Goal.{Goal}
use Rattle.wh_order.specs.Precedences.{order_of}
use Rattle.wh_order.specs.Claims.{task, IsGoalOver}
use Rattle.wh_order_known.specs.declared.choice.Choice.{Choice}
use Rattle.wh_order_known.specs.Least.{IsLeast, own}
use Rattle.wh_order_known.specs.Ways.{IsShown}

-- the least number of entries that shows the goal, nested at most `room` deep
abbrev pub IsLeastCount : FilteringData → ℕ → Goal → Option ℕ → Type 0
IsLeastCount D room g r = (w : World) → IsGoalOver (length D.symbols) w g
    → IsLeast own (IsShown w.symbols (order_of D) w.metas room (task (length D.symbols) g)) r

-- the one with fewer entries, and the first one where they have equally many
abbrev pub IsLesser : Option Choice → Option Choice → Option Choice → Type 0
IsLesser None s r = r ≡ s
IsLesser (Some a) None r = r ≡ Some a
IsLesser (Some a) (Some b) r = ((a.count ≤ b.count) × (r ≡ Some a)) ⊎ ((b.count < a.count) × (r ≡ Some b))

-- how many entries that makes
abbrev pub count_of : Option Choice → Option ℕ
count_of None = None
count_of (Some c) = Some c.count
