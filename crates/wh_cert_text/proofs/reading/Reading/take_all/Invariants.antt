use Rattle.std.proofs.Common.{ℕ, ◌+◌, ◌-◌, ◌<◌, ◌≤◌, ◌^◌, List, ◌++◌, length, take}
use Rattle.wh_cert_text.specs.Gathering.{HasRead}
use Rattle.wh_cert_text.proofs.reading.Reading.take_all.Given as goal

-- the bytes up to there were read
abbrev pub invariant-loop-at : goal.invariant-loop-at
invariant-loop-at l =
    (l.at ≤ length l.piece)
    × ((bytes : List ℕ) → HasRead l.fn.self bytes → length bytes + length l.piece < 2 ^ 32 → HasRead l.self (bytes ++ take l.at l.piece))

abbrev pub decreases-loop-at : goal.decreases-loop-at
decreases-loop-at l = length l.piece - l.at
