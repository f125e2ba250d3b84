use Rattle.std.proofs.Common.{◌≡◌, ℕ, ◌+◌, ◌*◌, ◌^◌, ◌≤◌, Bool, drop, length}
use Rattle.wh_circuit.specs.Gates.{Agrees, AreWires}
use Rattle.wh_circuit.specs.State.{Grows, gates_of}
use Rattle.wh_circuit.specs.Values.{number_of}
use Rattle.wh_circuit_products.proofs.multiplying.multiplied.Given as goal

abbrev pub invariant-loop-wire : goal.invariant-loop-wire
invariant-loop-wire l = record {
  grows : Grows (l.wire-index * (10 * length l.b + 1)) l.fn.circuit l.circuit;
  own : AreWires (gates_of l.circuit) l.made;
  own_rest : AreWires (gates_of l.circuit) l.rest;
  width : length l.made ≡ l.wire-index;
  narrow : length l.rest ≤ length l.b;
  same : (v : ℕ → Bool) → Agrees (gates_of l.circuit) v
      → number_of v l.made + 2 ^ l.wire-index * (number_of v l.rest + number_of v (drop l.wire-index l.a) * number_of v l.b) ≡ number_of v l.a * number_of v l.b;
}
