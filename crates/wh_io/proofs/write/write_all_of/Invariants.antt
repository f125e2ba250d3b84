use Rattle.std.proofs.Common.{◌≡◌, ◌++◌, ℕ, List, length}
use Rattle.wh_io.specs.Outside.{Wrote}
use Rattle.wh_io.proofs.write.write_all_of.Given as goal

abbrev pub invariant-loop-rest : goal.invariant-loop-rest
invariant-loop-rest g l =
    let s = g.K.Sink in
    record {
      front : List ℕ;
      whole : l.bytes ≡ front ++ l.rest;
      wrote : Wrote (s.written l.initial.sink) (s.written l.sink) front;
      same : s.faults l.sink ≡ s.faults l.initial.sink;
    }

abbrev pub decreases-loop-rest : goal.decreases-loop-rest
decreases-loop-rest g l = length l.rest
