-- What a byte of a certificate hands out. It mirrors the code; the laws in proofs/ tie it to the text.
use Rattle.std.specs.Prelude.{ℕ, ◌≡◌, Option, Some, None}
use Rattle.wh_cert.specs.Items.{Item, yes_head, node, no_head, step, at, put, end}
use Rattle.wh_cert.specs.Said.{said_item}
use Rattle.wh_cert.specs.declared.item.Item as code
use Rattle.wh_cert_machines.specs.YesMachine as y
use Rattle.wh_cert_machines.specs.LineMachine as m
use Rattle.wh_cert_machines.specs.LineViews.{item_of, line_place}
use Rattle.wh_cert_machines.specs.YesViews.{yes_place}
use Rattle.wh_cert_machines.specs.declared.line_reader.Item as line
use Rattle.wh_cert_machines.specs.declared.line_reader.NoLine.{NoLine}
use Rattle.wh_cert_text.specs.declared.items_out.Taken.{Taken}
use Rattle.wh_cert_text.specs.declared.items_out.Taken.TheVariants.{On, Wrong}
use Rattle.wh_cert_machines.specs.declared.progress.YesItems.{YesItems}

-- how many nodes are wanted
abbrev pub wanted : y.Past → ℕ
wanted (y.so_far version ranks pairs nodes k) = k

-- the item of a line of a NO certificate
abbrev pub no_item : m.Item → Item
no_item (m.head_item t) = no_head t
no_item (m.step_item s) = step s
no_item (m.at_item path) = at path
no_item (m.put_item p) = put p
no_item m.end_item = end

abbrev pub GivesNo : line.Item → code.Item → Type 0
GivesNo i out = said_item out ≡ no_item (item_of i)

-- what became of the line of a NO certificate by a byte
abbrev pub TakesNo : NoLine → m.LineStep → Taken → Type 0
TakesNo new (m.on q) (On None) = line_place new ≡ q
TakesNo new (m.gives i q) (On (Some out)) = (line_place new ≡ q) × (said_item out ≡ no_item i)
TakesNo new m.refused Wrong = Unit {0}
TakesNo new _ _ = ⊥

-- behind the first byte of a YES certificate
abbrev pub Begun : YesItems → Type 0
Begun l = (l.version ≡ 0) × (l.wanted ≡ 0) × (m.stands_yes y.nothing (yes_place l.line) ≡ m.first_byte 89)

-- what became of the counts of a YES certificate by an item of its lines, behind the items h
abbrev pub GivesYes : y.Past → YesItems → YesItems → y.Item → Option code.Item → Type 0
GivesYes h old new (y.version_item v) None = (new.ranks ≡ old.ranks) × (new.wanted ≡ wanted h) × (new.version ≡ v)
GivesYes h old new (y.ranks_item xs) None = (new.ranks ≡ xs) × (new.wanted ≡ wanted h) × (new.version ≡ y.version_of h)
GivesYes h old new (y.pairs_item n) (Some out) =
    (said_item out ≡ yes_head (y.version_of h) old.ranks n) × (new.wanted ≡ 1) × (new.version ≡ y.version_of h)
GivesYes h old new (y.node_item x) (Some out) =
    (said_item out ≡ node x) × (new.ranks ≡ old.ranks) × (new.wanted ≡ wanted (y.gather h (y.node_item x)))
    × (new.version ≡ y.version_of h)
GivesYes h old new y.end_item (Some out) =
    (said_item out ≡ end) × (new.ranks ≡ old.ranks) × (new.wanted ≡ wanted h) × (new.version ≡ y.version_of h)
GivesYes h old new _ _ = ⊥

-- what became of the lines of a YES certificate by a byte
abbrev pub TakesYes : y.Past → YesItems → YesItems → y.LineStep → Taken → Type 0
TakesYes h old new (y.on q) (On None) =
    (yes_place new.line ≡ q) × (new.ranks ≡ old.ranks) × (new.wanted ≡ wanted h) × (new.version ≡ y.version_of h)
TakesYes h old new (y.gives i q) (On out) = (yes_place new.line ≡ q) × GivesYes h old new i out
TakesYes h old new y.refused Wrong = Unit {0}
TakesYes h old new _ _ = ⊥

-- the item that a byte hands out, where the bytes before it led there
abbrev pub handed_no : m.LineStep → Option Item
handed_no (m.gives i q) = Some (no_item i)
handed_no _ = None

abbrev pub handed_yes : y.Past → y.LineStep → Option Item
handed_yes (y.so_far version ranks pairs nodes k) (y.gives (y.pairs_item n) q) = Some (yes_head version ranks n)
handed_yes h (y.gives (y.node_item x) q) = Some (node x)
handed_yes h (y.gives y.end_item q) = Some end
handed_yes h _ = None

abbrev pub handed : m.Standing → ℕ → Option Item
handed (m.stands h p) b = handed_no (m.line_step p b)
handed (m.stands_yes h p) b = handed_yes h (y.step (y.version_of h) (y.wants h) p b)
handed _ b = None
