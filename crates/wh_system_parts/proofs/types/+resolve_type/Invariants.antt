use Rattle.std.proofs.Common.{◌≡◌, ◌++◌, drop}
use Rattle.wh_text.specs.Erase.{rtys}
use Rattle.wh_types.specs.Erase.{tys}
use Rattle.wh_system_parts.specs.Faults.{first_fault}
use Rattle.wh_system_parts.specs.Tests.{sorts_of_types}
use Rattle.wh_system_parts.specs.RuleTests.{types_of_raw}
use Rattle.wh_system_parts.proofs.types.+resolve_type.Given as goal

abbrev pub invariant-resolve_types-loop-kind : goal.invariant-resolve_types-loop-kind
invariant-resolve_types-loop-kind l =
    (first_fault (sorts_of_types l.sorts (rtys l.kind-items)) ≡ first_fault (sorts_of_types l.sorts (rtys (drop l.kind-index l.kind-items))))
    × (types_of_raw l.sorts (rtys l.kind-items) ≡ tys l.domains.items ++ types_of_raw l.sorts (rtys (drop l.kind-index l.kind-items)))
