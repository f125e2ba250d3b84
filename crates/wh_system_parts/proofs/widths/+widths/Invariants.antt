use Rattle.std.proofs.Common.{◌≡◌, ◌+◌, ◌-◌, ◌≤◌, drop}
use Rattle.wh_text.specs.Erase.{rtms}
use Rattle.wh_system_parts.specs.Faults.{first_fault}
use Rattle.wh_system_parts.specs.Tests.{widths_of_terms, width_of_arguments}
use Rattle.wh_system_parts.proofs.widths.+widths.Given as goal

abbrev pub invariant-check_each_width-loop-item : goal.invariant-check_each_width-loop-item
invariant-check_each_width-loop-item l = first_fault (widths_of_terms (rtms l.item-items)) ≡ first_fault (widths_of_terms (rtms (drop l.item-index l.item-items)))

abbrev pub invariant-check_arguments-loop-item : goal.invariant-check_arguments-loop-item
invariant-check_arguments-loop-item l =
    (l.room ≤ 32 → first_fault (width_of_arguments (32 - l.room) (rtms l.item-items)) ≡ first_fault (width_of_arguments (32 - l.room + l.item-index) (rtms (drop l.item-index l.item-items))))
    × (l.left + l.item-index ≡ l.room)
