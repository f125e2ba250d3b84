use Rattle.std.proofs.Common.{◌≡◌, ◌+◌, drop}
use Rattle.wh_text.specs.Erase.{rtms}
use Rattle.wh_system_parts.specs.Tests.{raw_sizes, raw_spine_size}
use Rattle.wh_system_parts.proofs.sizes.+sizes.Given as goal

-- what is still to be spent
abbrev pub invariant-spend_each-loop-item : goal.invariant-spend_each-loop-item
invariant-spend_each-loop-item l = l.left + raw_sizes (rtms l.item-items) ≡ l.room + raw_sizes (rtms (drop l.item-index l.item-items))

abbrev pub invariant-spend_arguments-loop-item : goal.invariant-spend_arguments-loop-item
invariant-spend_arguments-loop-item l = l.left + raw_spine_size (rtms l.item-items) ≡ l.room + raw_spine_size (rtms (drop l.item-index l.item-items))
