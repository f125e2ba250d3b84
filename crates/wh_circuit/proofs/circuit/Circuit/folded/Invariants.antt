use Rattle.std.proofs.Common.{◌≡◌, ℕ, ◌&&◌, Bool, drop}
use Rattle.wh_circuit.specs.Gates.{Agrees, AreWires}
use Rattle.wh_circuit.specs.State.{gates_of}
use Rattle.wh_circuit.specs.Values.{all_true}
use Rattle.wh_circuit.proofs.circuit.Circuit.folded.Given as goal

abbrev pub invariant-loop-wire : goal.invariant-loop-wire
invariant-loop-wire l = record {
  own : AreWires (gates_of l.self) l.kept;
  same : (v : ℕ → Bool) → Agrees (gates_of l.self) v → (all_true v l.kept && all_true v (drop l.wire-index l.of)) ≡ all_true v l.of;
}
