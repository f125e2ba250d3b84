use Rattle.std.proofs.Common.{◌≡◌, ◌≤◌, ◌-◌, ℕ, List, length, take, None, Some, vec_len}
use Rattle.wh_io.proofs.read.read_whole.Given as goal

abbrev pub invariant-loop-buffer : goal.invariant-loop-buffer
invariant-loop-buffer g l =
    let s = g.S.Shelf in
    record {
      limit : l.pieces.limit ≡ l.limit;
      counted : l.pieces.given ≡ length l.bytes;
      short : l.pieces.given ≤ l.limit;
      running : l.pieces.ended ≡ None;
      front : (file : List ℕ) → s.held l.initial.shelf l.name ≡ Some file → l.bytes ≡ take l.pieces.given file;
      kept : (other : List ℕ) → s.held l.shelf other ≡ s.held l.initial.shelf other;
      same : s.faults l.shelf l.name ≡ s.faults l.initial.shelf l.name;
      later : (other : List ℕ) → s.faults l.initial.shelf other ≤ s.faults l.shelf other;
      piece : vec_len l.buffer ≡ 65536;
    }

abbrev pub decreases-loop-buffer : goal.decreases-loop-buffer
decreases-loop-buffer g l = l.limit - l.pieces.given
