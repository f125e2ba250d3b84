use Rattle.std.proofs.Common.{◌≤◌, drop}
use Rattle.wh_text.specs.Erase.{rtms}
use Rattle.wh_system_parts.specs.Tests.{raw_heights}
use Rattle.wh_system_parts.proofs.heights.+heights.Given as goal

abbrev pub invariant-keep_all_low-loop-item : goal.invariant-keep_all_low-loop-item
invariant-keep_all_low-loop-item l =
    (raw_heights (rtms (drop l.item-index l.item-items)) ≤ l.low → raw_heights (rtms l.item-items) ≤ l.low)
    × (raw_heights (rtms (drop l.item-index l.item-items)) ≤ raw_heights (rtms l.item-items))
