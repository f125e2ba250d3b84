use Rattle.std.proofs.Common.{◌≡◌, ◌++◌, drop}
use Rattle.wh_circuit_gates.proofs.pieces.wires_from.Given as goal

abbrev pub invariant-loop-place : goal.invariant-loop-place
invariant-loop-place l = l.made ++ drop l.place l.of ≡ drop l.from l.of
