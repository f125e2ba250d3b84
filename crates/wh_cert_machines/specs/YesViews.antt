-- The states of the reader of YES certificates that the values of its code stand for.
use Rattle.std.specs.Prelude.{ℕ, zero, suc, List, [], drop, map, Option, Some, None}
use Rattle.wh_cert_letters.specs.declared.letters.Letters.{Letters}
use Rattle.wh_cert.specs.Written.{blocks}
use Rattle.wh_cert.specs.Said.{said_arg, said_node}
use Rattle.wh_cert_machines.specs.YesMachine as m
use Rattle.wh_cert_lines.specs.OrderLinesViews as orders
use Rattle.wh_cert_lines.specs.PolyLinesViews.{section_of, lines_of, lines_place}
use Rattle.wh_cert_machines.specs.declared.yes_line.Listed.{Listed}
use Rattle.wh_cert_machines.specs.declared.yes_line.Listed.TheVariants as listed
use Rattle.wh_cert_machines.specs.declared.yes_line.Counted.{Counted}
use Rattle.wh_cert_machines.specs.declared.yes_line.Counted.TheVariants as counted
use Rattle.wh_cert_machines.specs.declared.yes_line.YesBehind.{YesBehind}
use Rattle.wh_cert_machines.specs.declared.yes_line.YesBehind.TheVariants as behind
use Rattle.wh_cert_machines.specs.declared.yes_line.YesPlace.{YesPlace}
use Rattle.wh_cert_machines.specs.declared.yes_line.YesPlace.TheVariants as place
use Rattle.wh_cert_machines.specs.declared.yes_line.YesLine.{YesLine}
use Rattle.wh_cert_machines.specs.declared.yes_line.YesItem.{YesItem}
use Rattle.wh_cert_machines.specs.declared.yes_line.YesItem.TheVariants as item
use Rattle.wh_cert_machines.specs.declared.yes_line.YesStep.{YesStep}
use Rattle.wh_cert_machines.specs.declared.yes_line.YesStep.TheVariants.{On, Gives, Wrong}

abbrev pub listed_of : Listed → YesLine → m.Listed
listed_of listed.Ranks l = m.of_ranks
listed_of (listed.Block left) l = m.of_block left l.parts
listed_of listed.Drop l = m.of_drop (map said_arg l.args)
listed_of listed.Usable l = m.of_usable
listed_of listed.Poly l = m.dropped l.usable (lines_of l.lines.value)
listed_of listed.Order l = m.order_dropped (orders.lines_of l.order.value)

abbrev pub behind_of : YesBehind → YesLine → m.Behind
behind_of behind.Version l = m.to_version
behind_of (behind.List of) l = m.to_list (listed_of of l)
behind_of behind.Pairs l = m.to_pairs
behind_of behind.Done l = m.to_done
behind_of behind.Alone l = m.to_alone
behind_of behind.Blocks l = m.to_blocks
behind_of behind.Subterm l = m.to_subterm
behind_of behind.Name l = m.to_name (map said_arg l.args)
behind_of behind.Poly l = m.to_poly
behind_of (behind.Line section) l = m.to_line l.usable (section_of section l.lines.value)
behind_of behind.Order l = m.to_order
behind_of (behind.OrderLine section) l = m.to_order_line (orders.section_of section l.order.value)
behind_of behind.Finish l = m.to_finish

-- no byte is right here
abbrev pub nowhere : m.Place
nowhere = m.word [] m.to_finish

-- behind a name that was begun
abbrev pub naming : Option Letters → (List ℕ → m.Place) → m.Place
naming None k = nowhere
naming (Some name) k = k name

abbrev pub counted_of : Counted → YesLine → m.Counted
counted_of counted.Pairs l = m.of_pairs
counted_of counted.Blocks l = m.of_blocks
counted_of (counted.List of) l = m.of_list (listed_of of l) l.numbers

-- past the end of a word no byte is right
abbrev pub place_of : YesPlace → YesLine → m.Place
place_of (place.Word o i) l = m.word (drop i (m.spelling (behind_of o l))) (behind_of o l)
place_of place.VersionWanted l = m.version_wanted
place_of (place.Listed of) l = m.listed (listed_of of l) l.numbers
place_of (place.NumberWanted of) l = m.number_wanted (counted_of of l)
place_of (place.Number of n) l = m.number (counted_of of l) n
place_of place.Front l = m.front
place_of place.ArgFront l = m.arg_front (map said_arg l.args)
place_of place.NameWanted l = m.name_wanted (map said_arg l.args)
place_of place.Name l = naming l.name (λ name. m.letters (map said_arg l.args) name)
place_of place.ArgPlaceWanted l = naming l.name (λ name. m.number_wanted (m.of_place (map said_arg l.args) name))
place_of (place.ArgPlace n) l = naming l.name (λ name. m.number (m.of_place (map said_arg l.args) name) n)
place_of place.Lines l = m.poly_lines l.usable (lines_of l.lines.value) (lines_place l.lines.value)
place_of place.OrderLines l = m.order_lines (orders.lines_of l.order.value) (orders.lines_place l.order.value)
place_of place.Finished l = m.finished

abbrev pub yes_place : YesLine → m.Place
yes_place l = place_of l.place l

abbrev pub item_of : YesItem → m.Item
item_of (item.Version version) = m.version_item version
item_of (item.Ranks ranks) = m.ranks_item ranks
item_of (item.Pairs n) = m.pairs_item n
item_of (item.Node x) = m.node_item (said_node x)
item_of item.End = m.end_item

-- a step that left the line so
abbrev pub yes_went : YesStep → YesLine → m.LineStep
yes_went On l = m.on (yes_place l)
yes_went (Gives i) l = m.gives (item_of i) (yes_place l)
yes_went Wrong l = m.refused

-- where the line of a block leads, behind the blocks that were read: to the node where no block is left, or to the next
-- block
abbrev pub next_block : ℕ → List (List ℕ) → m.LineStep
next_block zero parts = m.gives (m.node_item (blocks parts)) m.front
next_block (suc left) parts = m.block_wanted left parts
