-- Circuits that come to numbers of flat sides, and how they grow.
use Rattle.std.specs.Prelude.{ℕ, ◌+◌, ◌*◌, ◌<◌, ◌≤◌, ◌≡◌, Bool, true, List, Some, length, slice_get}
use Rattle.wh_terms.specs.Tree.{Tm}
use Rattle.wh_circuit.specs.declared.circuit.Circuit.{Circuit}
use Rattle.wh_circuit.specs.declared.circuit.Gate.{Gate}
use Rattle.wh_circuit.specs.Gates.{Agrees, Extends, MeansNumber}
use Rattle.wh_circuit.specs.State.{gates_of, required_of}
use Rattle.wh_circuit.specs.Values.{all_true}
use Rattle.wh_poly_flat.specs.Flat.{occurrences}
use Rattle.wh_poly_flat.specs.Worth.{symbol_in, places_in}
use Rattle.wh_find_flat.specs.Lists.{lists_for}
use Rattle.wh_find_flat.specs.Parts.{number_at}
use Rattle.wh_find_flat.specs.declared.part.Part.{Part}
use Rattle.wh_find_flat.specs.declared.value.Value.{Value}

-- gates have joined, none of them an input
abbrev pub Later : List Gate → List Gate → Type 0
Later before after = (n : ℕ) × Extends n before after

-- at most `many` gates have joined a circuit, none of them an input; what is required stays
pub record Builds (many : ℕ) (before after : Circuit) : Type 0 where
  pub gates : Later (gates_of before) (gates_of after)
  pub few : length (gates_of after) ≤ length (gates_of before) + many
  pub required : required_of after ≡ required_of before

-- the bits of coefficients are the first gates, and they are inputs
abbrev pub AreInputs : ℕ → List Gate → Type 0
AreInputs count gates = (k : ℕ) → k < count → (g : Gate) × (slice_get gates k ≡ Some g) × (g.is_input ≡ true)

-- the value tells the number of the tree, with what heads the tree
pub record IsValue (sizes : List ℕ) (part : Part) (gates : List Gate) (t : Tm) (value : Value) : Type 0 where
  pub means : MeansNumber gates value.wires.items (λ v. number_at part (lists_for sizes v) t)
  pub width : length value.wires.items ≤ 2 * value.occurrences
  pub occurrences_are : value.occurrences ≡ occurrences t
  pub symbol_is : value.symbol ≡ symbol_in t
  pub places_are : value.places ≡ places_in t

-- beside what was required something more is, which comes to P
pub record Asks (before after : Circuit) (P : (ℕ → Bool) → Type 0) : Type 0 where
  pub gates : Later (gates_of before) (gates_of after)
  pub met : (v : ℕ → Bool) → Agrees (gates_of after) v → all_true v (required_of after) ≡ true
      → (all_true v (required_of before) ≡ true) × P v
  pub asks : (v : ℕ → Bool) → Agrees (gates_of after) v → all_true v (required_of before) ≡ true → P v
      → all_true v (required_of after) ≡ true
