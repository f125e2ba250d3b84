use Rattle.std.proofs.Common.{◌+◌, ◌<◌, ◌^◌, ℕ, List, length}
use Rattle.wh_cert_machines.specs.LineMachine.{run, start}
use Rattle.wh_cert_text.specs.Feeding.{TracksNo}
use Rattle.wh_cert_text.proofs.PortionCode.{SoFar}
use Rattle.wh_cert_text.proofs.items_out.take_some_no.Given as goal

-- the line has gone on by the bytes so far, and no item is whole
abbrev pub invariant-loop-index : goal.invariant-loop-index
invariant-loop-index l =
    (p : List ℕ) → TracksNo l.fn.line (run start p) → length p + length l.bytes < 2 ^ 32 → SoFar (TracksNo l.line) p l.bytes l.index
