use Rattle.std.proofs.Common.{◌≡◌, [], length}
use Rattle.wh_circuit.specs.State.{gates_of, required_of}
use Rattle.wh_order_meeting.specs.Meeting.{AreInputs}
use Rattle.wh_order_meeting.proofs.meeting.circuit_with.Given as goal

abbrev pub invariant-loop : goal.invariant-loop
invariant-loop l = record {
  inputs : AreInputs l.counter (gates_of l.circuit);
  count : length (gates_of l.circuit) ≡ l.counter;
  required : required_of l.circuit ≡ [];
}
