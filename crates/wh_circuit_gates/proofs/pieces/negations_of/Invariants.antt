use Rattle.std.proofs.Common.{◌≡◌, take, map}
use Rattle.wh_sat_trail.specs.Assignment.{negated}
use Rattle.wh_circuit_gates.proofs.pieces.negations_of.Given as goal

abbrev pub invariant-loop-wire : goal.invariant-loop-wire
invariant-loop-wire l = l.made.items ≡ map negated (take l.wire-index l.of)
