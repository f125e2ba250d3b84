-- The state of a circuit as its callers see it: its gates, its clauses and what is required; and how it grows.
use Rattle.std.specs.Prelude.{◌≡◌, ℕ, List, length, take}
use Rattle.wh_sat_trail.specs.declared.literal.Literal.{Literal}
use Rattle.wh_sat_trail.specs.declared.formula.Formula.{Formula}
use Rattle.wh_circuit.specs.declared.circuit.Circuit.{Circuit}
use Rattle.wh_circuit.specs.declared.circuit.Gate.{Gate}
use Rattle.wh_circuit.specs.Gates.{Extends}

abbrev pub gates_of : Circuit → List Gate
gates_of circuit = circuit.gates.items

abbrev pub required_of : Circuit → List Literal
required_of circuit = circuit.required.items

abbrev pub formula_of : Circuit → Formula
formula_of circuit = circuit.formula

-- at most n gates have joined, and clauses with them; what is required stays
pub record Grows (n : ℕ) (before after : Circuit) : Type 0 where
  pub gates : Extends n (gates_of before) (gates_of after)
  pub clauses : take (length (formula_of before).clauses) (formula_of after).clauses ≡ (formula_of before).clauses
  pub required : required_of after ≡ required_of before

-- after want of memory
pub record Unchanged (before after : Circuit) : Type 0 where
  pub gates : gates_of after ≡ gates_of before
  pub formula : formula_of after ≡ formula_of before
  pub required : required_of after ≡ required_of before
