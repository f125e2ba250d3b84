use Rattle.std.proofs.Common.{◌≡◌, drop}
use Rattle.wh_text.specs.Erase.{rtms}
use Rattle.wh_system_parts.specs.Faults.{first_fault}
use Rattle.wh_system_parts.specs.RuleTests.{opens_tests}
use Rattle.wh_system_resolve.proofs.open.+open.Given as goal

abbrev pub invariant-check_open_each-loop-item : goal.invariant-check_open_each-loop-item
invariant-check_open_each-loop-item l = first_fault (opens_tests (rtms l.item-items)) ≡ first_fault (opens_tests (rtms (drop l.item-index l.item-items)))
