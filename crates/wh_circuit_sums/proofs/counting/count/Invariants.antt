use Rattle.std.proofs.Common.{◌+◌, ◌*◌, take}
use Rattle.wh_circuit.specs.State.{Grows, gates_of}
use Rattle.wh_circuit_sums.specs.Steps.{Counts}
use Rattle.wh_circuit.specs.Values.{true_count}
use Rattle.wh_circuit_sums.proofs.counting.count.Given as goal

abbrev pub invariant-loop-wire : goal.invariant-loop-wire
invariant-loop-wire l = record {
  grows : Grows (3 * l.wire-index + 1) l.fn.circuit l.circuit;
  counts : Counts (gates_of l.circuit) l.count (λ v. true_count v (take l.wire-index l.of));
}
