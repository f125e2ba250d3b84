use Rattle.std.proofs.Common.{◌≡◌, ◌++◌, drop}
use Rattle.wh_text.specs.Erase.{rtys}
use Rattle.wh_types.specs.Erase.{tys}
use Rattle.wh_system_parts.specs.Faults.{first_fault}
use Rattle.wh_system_parts.specs.Tests.{types_tests}
use Rattle.wh_system_parts.specs.RuleTests.{types_of_raw}
use Rattle.wh_system_parts.proofs.metas.declared_types.Given as goal

abbrev pub invariant-loop-kind : goal.invariant-loop-kind
invariant-loop-kind l =
    (first_fault (types_tests l.sorts (rtys l.kind-items)) ≡ first_fault (types_tests l.sorts (rtys (drop l.kind-index l.kind-items))))
    × (types_of_raw l.sorts (rtys l.kind-items) ≡ tys l.types ++ types_of_raw l.sorts (rtys (drop l.kind-index l.kind-items)))
