-- Demands as circuits: wires that are true where bits meet a demand.
use Rattle.std.specs.Prelude.{ℕ, ◌≡◌, ◌<◌, Bool, true, List, [], Option, None, Some, get_or, slice_get}
use Rattle.wh_sat_trail.specs.declared.literal.Literal.{Literal}
use Rattle.wh_circuit.specs.declared.circuit.Circuit.{Circuit}
use Rattle.wh_circuit.specs.declared.circuit.Gate.{Gate}
use Rattle.wh_sat.specs.Solving.{literal_true}
use Rattle.wh_circuit.specs.Gates.{Agrees, Extends, Means, Ordered}
use Rattle.wh_circuit.specs.State.{gates_of, required_of}
use Rattle.wh_order_demands.specs.declared.demand.Demand.{Demand}
use Rattle.wh_order_demands.specs.declared.demand.Demand.TheVariants.{Always, Never, Bit, NoBit, Both', Either'}
use Rattle.wh_order_meeting.specs.declared.meeting.Meeting.{Meeting}
use Rattle.wh_order_meeting.specs.declared.meeting.Meeting.TheVariants as meeting
use Rattle.wh_order_demands.specs.Demands.{holds}

-- no values of bits meet the demand; of the other answers nothing is said
abbrev pub IsMeeting : Demand → Meeting → Type 0
IsMeeting demand meeting.Never = (v : ℕ → Bool) → holds v demand ≡ true → ⊥
IsMeeting demand _ = Unit {0}

-- the circuit, where nothing is required yet, makes the wire true under no values; of the other answers nothing is said
abbrev pub IsSolved : Circuit → Literal → Meeting → Type 0
IsSolved circuit wire meeting.Never =
    required_of circuit ≡ [] → Ordered (gates_of circuit) × ((v : ℕ → Bool) → Agrees (gates_of circuit) v → literal_true v wire ≡ true → ⊥)
IsSolved circuit wire _ = Unit {0}

-- the first gates are inputs
abbrev pub AreInputs : ℕ → List Gate → Type 0
AreInputs count gates = (k : ℕ) → k < count → (g : Gate) × (slice_get gates k ≡ Some g) × (g.is_input ≡ true)

-- each bit that has an input is the one that stands at this input's place
abbrev pub AreNumbered : List (Option ℕ) → List ℕ → Type 0
AreNumbered places bits = (x k : ℕ) → slice_get places x ≡ Some (Some k) → slice_get bits k ≡ Some x

abbrev pub or_zero : Option ℕ → ℕ
or_zero None = 0
or_zero (Some k) = k

-- the values of bits, where those of inputs are these
abbrev pub values_by : List (Option ℕ) → (ℕ → Bool) → ℕ → Bool
values_by places v x = v (or_zero (get_or places x None))

-- the bit has this input
abbrev pub IsInputOf : List (Option ℕ) → ℕ → Option ℕ → Type 0
IsInputOf places x None = Unit {0}
IsInputOf places x (Some k) = slice_get places x ≡ Some (Some k)

-- the demand names only bits that have inputs
abbrev pub IsNamed : List (Option ℕ) → Demand → Type 0
IsNamed places Always = Unit {0}
IsNamed places Never = Unit {0}
IsNamed places (Bit x) = (k : ℕ) × (slice_get places x ≡ Some (Some k))
IsNamed places (NoBit x) = (k : ℕ) × (slice_get places x ≡ Some (Some k))
IsNamed places (Both' p a q b) = IsNamed places a × IsNamed places b
IsNamed places (Either' p a q b) = IsNamed places a × IsNamed places b

-- gates have joined, none of them an input, and nothing more is required; the wire is what is stated of the values
pub record Joins (before after : Circuit) (wire : Literal) (stated : (ℕ → Bool) → Bool) : Type 0 where
  pub many : ℕ
  pub gates : Extends many (gates_of before) (gates_of after)
  pub required : required_of after ≡ required_of before
  pub means : Means (gates_of after) wire stated

-- the circuit grew and the wire is what is stated of the values, or there is no wire
abbrev pub IsJoined : Circuit → Circuit → ((ℕ → Bool) → Bool) → Option Literal → Type 0
IsJoined before after stated None = Unit {0}
IsJoined before after stated (Some wire) = Joins before after wire stated

-- the wire is true exactly where the bits meet the demand, which names only bits that have inputs; or there is no wire
abbrev pub IsBuilt : List (Option ℕ) → Demand → Circuit → Circuit → Option Literal → Type 0
IsBuilt places demand before after None = Unit {0}
IsBuilt places demand before after (Some wire) = IsNamed places demand × Joins before after wire (λ v. holds (values_by places v) demand)

-- the wire of a bit, where that has an input
abbrev pub IsWireAt : ℕ → List (Option ℕ) → Bool → Option Literal → Type 0
IsWireAt bit places positive None = Unit {0}
IsWireAt bit places positive (Some wire) = (k : ℕ) × (slice_get places bit ≡ Some (Some k)) × (wire ≡ record { variable = k; positive = positive })
