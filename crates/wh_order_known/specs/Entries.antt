-- Entries of the table of goals: what each says of the least number of entries of an inference.
use Rattle.std.specs.Prelude.{◌≡◌, ℕ, length}
use Rattle.wh_order_node.specs.Filterings.{FilteringData}
use Rattle.wh_order_trees.specs.Trees.{tree}
use Rattle.wh_order_trees.specs.TreeParts.{World, Over}
use Rattle.wh_order.specs.declared.goals.Goal.{Goal}
use Rattle.wh_order.specs.Precedences.{order_of}
use Rattle.wh_order.specs.Claims.{said, side_tree}
use Rattle.wh_order_known.specs.declared.entry.Entry.{Entry}
use Rattle.wh_order_known.specs.Least.{IsLeast, own}
use Rattle.wh_order_known.specs.Ways.{IsShown}
use Rattle.wh_order_known.specs.Plain.{plain}

-- the number of the entry is the least one for its goal, where inferences nest at most as deep as the entry says
abbrev pub IsExact : FilteringData → Entry → Type 0
IsExact D e = (w : World) → Over (length D.symbols) w e.left → Over (length D.symbols) w e.right
    → IsLeast own (IsShown w.symbols (order_of D) w.metas e.room
    (record { claim = said e.claim; next = e.next; left = tree (length D.symbols) e.left; right = tree (length D.symbols) e.right })) e.count

-- the entry is for that goal, where inferences nest at most `room` deep
pub record IsEntryFor (e : Entry) (g : Goal) (room : ℕ) : Type 0 where
  pub same_claim : e.claim ≡ g.claim
  pub same_next : e.next ≡ g.next
  pub same_left : plain e.left ≡ plain (side_tree g.left)
  pub same_right : plain e.right ≡ plain (side_tree g.right)
  pub same_room : e.room ≡ room
