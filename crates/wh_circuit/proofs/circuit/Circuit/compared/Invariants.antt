use Rattle.std.proofs.Common.{◌≡◌, ℕ, ◌+◌, ◌*◌, Bool, drop, nat_lt}
use Rattle.wh_sat.specs.Solving.{literal_true}
use Rattle.wh_circuit.specs.Gates.{Agrees, IsWire}
use Rattle.wh_circuit.specs.State.{Grows, gates_of}
use Rattle.wh_circuit.specs.Values.{bit, number_of}
use Rattle.wh_circuit.proofs.circuit.Circuit.compared.Given as goal

-- under the wire what is left of the numbers compares as they do
abbrev pub invariant-loop-i : goal.invariant-loop-i
invariant-loop-i l = record {
  grows : Grows (4 * l.i + 1) l.fn.self l.self;
  own : IsWire (gates_of l.self) l.least;
  same : (v : ℕ → Bool) → Agrees (gates_of l.self) v
      → nat_lt (number_of v (drop l.i l.b)) (number_of v (drop l.i l.a) + bit (literal_true v l.least)) ≡ nat_lt (number_of v l.b) (number_of v l.a + 1);
}
