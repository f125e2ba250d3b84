use Rattle.std.proofs.Common.{◌+◌, ◌<◌, ◌^◌, ℕ, List, length}
use Rattle.wh_cert_machines.specs.LineMachine.{run, start}
use Rattle.wh_cert_text.specs.Feeding.{TracksYes}
use Rattle.wh_cert_text.proofs.PortionCode.{SoFar}
use Rattle.wh_cert_text.proofs.items_out.take_some_yes.Given as goal

-- the lines have gone on by the bytes so far, and no item is whole
abbrev pub invariant-loop-index : goal.invariant-loop-index
invariant-loop-index l =
    (p : List ℕ) → TracksYes l.fn.lines (run start p) → length p + length l.bytes < 2 ^ 32 → SoFar (TracksYes l.lines) p l.bytes l.index
