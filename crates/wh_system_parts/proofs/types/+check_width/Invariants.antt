use Rattle.std.proofs.Common.{◌≡◌, drop}
use Rattle.wh_text.specs.Erase.{rty, rtys}
use Rattle.wh_system_parts.specs.Faults.{first_fault}
use Rattle.wh_system_parts.specs.Tests.{width_of_types}
use Rattle.wh_system_parts.proofs.RawTypes.{type_weight}
use Rattle.wh_system_parts.proofs.types.+check_width.Given as goal

abbrev pub decreases-check_width : goal.decreases-check_width
decreases-check_width l = type_weight (rty l.kind.now)

abbrev pub invariant-loop-k : goal.invariant-loop-k
invariant-loop-k l = first_fault (width_of_types 0 (rtys l.argument-items)) ≡ first_fault (width_of_types l.k (rtys (drop l.k l.argument-items)))
