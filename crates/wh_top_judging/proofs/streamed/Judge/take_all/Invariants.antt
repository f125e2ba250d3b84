use Rattle.std.proofs.Common.{ℕ, ◌+◌, ◌-◌, ◌<◌, ◌≤◌, ◌^◌, List, ◌++◌, length, take}
use Rattle.wh_system.specs.SystemView.{system_data}
use Rattle.wh_pairs.specs.Views.{pairs_data}
use Rattle.wh_top_judging.specs.Streamed.{HasComeTo}
use Rattle.wh_top_judging.proofs.streamed.Judge.take_all.Given as goal

-- the bytes up to there have come
abbrev pub invariant-loop-at : goal.invariant-loop-at
invariant-loop-at l =
    (l.at ≤ length l.piece)
    × ((bytes : List ℕ) → HasComeTo (system_data l.problem.system) (pairs_data l.problem.pairs) l.fn.self bytes
    → length bytes + length l.piece < 2 ^ 32
    → HasComeTo (system_data l.problem.system) (pairs_data l.problem.pairs) l.self (bytes ++ take l.at l.piece))

abbrev pub decreases-loop-at : goal.decreases-loop-at
decreases-loop-at l = length l.piece - l.at
