-- Gates: each variable of a circuit is an input, or true exactly where all of some earlier wires are.
use Rattle.std.specs.Prelude.{◌≡◌, ℕ, ◌+◌, ◌<◌, ◌≤◌, Bool, true, false, List, Some, length, take, slice_get}
use Rattle.wh_sat_trail.specs.declared.literal.Literal.{Literal}
use Rattle.wh_sat_trail.specs.Assignment.{AllBelow}
use Rattle.wh_sat.specs.Solving.{literal_true}
use Rattle.wh_circuit.specs.declared.circuit.Gate.{Gate}
use Rattle.wh_circuit.specs.Values.{all_true, number_of}

-- values of all variables are as the gates say; those of inputs are free
abbrev pub Agrees : List Gate → (ℕ → Bool) → Type 0
Agrees gates v = (k : ℕ) (g : Gate) → slice_get gates k ≡ Some g → g.is_input ≡ false → v k ≡ all_true v g.of

-- gates are made of what stands before them
abbrev pub Ordered : List Gate → Type 0
Ordered gates = (k : ℕ) (g : Gate) → slice_get gates k ≡ Some g → AllBelow k g.of

-- a wire, or wires, over the variables of a circuit
abbrev pub IsWire : List Gate → Literal → Type 0
IsWire gates a = a.variable < length gates

abbrev pub AreWires : List Gate → List Literal → Type 0
AreWires gates = AllBelow (length gates)

-- the gates make a variable true whatever the inputs are
abbrev pub IsAlwaysTrue : List Gate → ℕ → Type 0
IsAlwaysTrue gates k = (k < length gates) × ((v : ℕ → Bool) → Agrees gates v → v k ≡ true)

-- a wire of the circuit is what is stated of the values
pub record Means (gates : List Gate) (a : Literal) (stated : (ℕ → Bool) → Bool) : Type 0 where
  pub own : IsWire gates a
  pub is : (v : ℕ → Bool) → Agrees gates v → literal_true v a ≡ stated v

-- wires of the circuit write, as the bits of a number, what is stated of the values
pub record MeansNumber (gates : List Gate) (of : List Literal) (stated : (ℕ → Bool) → ℕ) : Type 0 where
  pub own : AreWires gates of
  pub is : (v : ℕ → Bool) → Agrees gates v → number_of v of ≡ stated v

-- at most n gates have joined, none of them an input
pub record Extends (n : ℕ) (before after : List Gate) : Type 0 where
  pub kept : take (length before) after ≡ before
  pub more : length before ≤ length after
  pub few : length after ≤ length before + n
  pub made : (k : ℕ) (g : Gate) → length before ≤ k → slice_get after k ≡ Some g → g.is_input ≡ false
