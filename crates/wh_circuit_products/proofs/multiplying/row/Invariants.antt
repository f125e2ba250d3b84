use Rattle.std.proofs.Common.{◌≡◌, ℕ, ◌+◌, ◌*◌, ◌^◌, Bool, drop, length}
use Rattle.wh_sat.specs.Solving.{literal_true}
use Rattle.wh_circuit.specs.Gates.{Agrees, AreWires}
use Rattle.wh_circuit.specs.State.{Grows, gates_of}
use Rattle.wh_circuit.specs.Values.{bit, number_of}
use Rattle.wh_circuit_products.proofs.multiplying.row.Given as goal

abbrev pub invariant-loop-digit : goal.invariant-loop-digit
invariant-loop-digit l = record {
  grows : Grows l.digit-index l.fn.circuit l.circuit;
  own : AreWires (gates_of l.circuit) l.made;
  width : length l.made ≡ l.digit-index;
  same : (v : ℕ → Bool) → Agrees (gates_of l.circuit) v
      → number_of v l.made + 2 ^ l.digit-index * (bit (literal_true v l.wire) * number_of v (drop l.digit-index l.b)) ≡ bit (literal_true v l.wire) * number_of v l.b;
}
