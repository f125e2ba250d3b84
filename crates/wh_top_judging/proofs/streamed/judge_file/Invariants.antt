use Rattle.std.proofs.Common.{◌≡◌, ◌≤◌, ◌-◌, ℕ, List, None, vec_len}
use Rattle.wh_system.specs.SystemView.{system_data}
use Rattle.wh_pairs.specs.Views.{pairs_data}
use Rattle.wh_types.specs.Limits.{certificate_limit}
use Rattle.wh_top_judging.proofs.Streaming.{JudgedSoFar}
use Rattle.wh_top_judging.proofs.streamed.judge_file.Given as goal

abbrev pub invariant-loop-count : goal.invariant-loop-count
invariant-loop-count g l =
    let s = g.S.Shelf in
    record {
      so_far : (bytes : List ℕ) × JudgedSoFar (system_data l.problem.system) (pairs_data l.problem.pairs) l.judge.reader l.judge.walk l.pieces.given (s.held l.initial.shelf l.cert) bytes;
      limit : l.pieces.limit ≡ certificate_limit;
      short : l.pieces.given ≤ certificate_limit;
      running : l.pieces.ended ≡ None;
      kept : (other : List ℕ) → s.held l.shelf other ≡ s.held l.initial.shelf other;
      same : s.faults l.shelf l.cert ≡ s.faults l.initial.shelf l.cert;
      piece : vec_len l.buffer ≡ 4096;
    }

abbrev pub decreases-loop-count : goal.decreases-loop-count
decreases-loop-count g l = certificate_limit - l.pieces.given
