use Rattle.std.proofs.Common.{◌≡◌, ℕ, ◌+◌, ◌*◌, ◌^◌, Bool, false, drop, length}
use Rattle.wh_sat.specs.Solving.{literal_true}
use Rattle.wh_circuit.specs.Gates.{Agrees, AreWires, IsWire, Means}
use Rattle.wh_circuit.specs.State.{Grows, gates_of}
use Rattle.wh_circuit.specs.Values.{bit, number_of}
use Rattle.wh_circuit_sums.proofs.adding.added.Given as goal

-- what was made, with what is left of the numbers and the carry, is the sum
abbrev pub invariant-loop-i : goal.invariant-loop-i
invariant-loop-i l = record {
  grows : Grows (9 * l.i + 1) l.fn.circuit l.circuit;
  none : Means (gates_of l.circuit) l.zero (λ v. false);
  own : AreWires (gates_of l.circuit) l.made;
  own_carry : IsWire (gates_of l.circuit) l.carry;
  width : length l.made ≡ l.i;
  same : (v : ℕ → Bool) → Agrees (gates_of l.circuit) v
      → number_of v l.made + 2 ^ l.i * (number_of v (drop l.i l.a) + number_of v (drop l.i l.b) + bit (literal_true v l.carry)) ≡ number_of v l.a + number_of v l.b;
}
