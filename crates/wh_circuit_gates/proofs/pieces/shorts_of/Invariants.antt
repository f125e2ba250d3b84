use Rattle.std.proofs.Common.{◌≡◌, take}
use Rattle.wh_circuit_gates.specs.Clauses.{shorts}
use Rattle.wh_circuit_gates.proofs.pieces.shorts_of.Given as goal

abbrev pub invariant-loop-wire : goal.invariant-loop-wire
invariant-loop-wire l = l.clauses ≡ shorts l.number (take l.wire-index l.of)
