-- Marks of a circuit: where it stood before it grew.
use Rattle.std.specs.Prelude.{◌≡◌, ℕ, length}
use Rattle.wh_circuit.specs.declared.circuit.Circuit.{Circuit}
use Rattle.wh_circuit.specs.declared.circuit.mark.Mark.{Mark}
use Rattle.wh_circuit.specs.State.{Grows}

-- where a circuit stood
pub record IsMark (circuit : Circuit) (mark : Mark) : Type 0 where
  pub variables : mark.variables ≡ circuit.formula.variables
  pub clauses : mark.clauses ≡ length circuit.formula.clauses
  pub truth : mark.truth ≡ circuit.truth

-- the circuit has grown from one that stood at the mark
pub record GrewFrom (mark : Mark) (circuit : Circuit) : Type 0 where
  pub before : Circuit
  pub marked : IsMark before mark
  pub many : ℕ
  pub grows : Grows many before circuit
