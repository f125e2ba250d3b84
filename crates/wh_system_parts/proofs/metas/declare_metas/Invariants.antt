use Rattle.std.proofs.Common.{◌≡◌, ◌++◌, [], drop, map, length}
use Rattle.wh_terms.specs.Erase.{declared_metas}
use Rattle.wh_system_parts.specs.Erase.{rmeta}
use Rattle.wh_system_parts.specs.Faults.{first_fault}
use Rattle.wh_system_parts.specs.RuleTests.{declared_by}
use Rattle.wh_system_parts.specs.Tests.{meta_tests}
use Rattle.wh_system_parts.proofs.metas.declare_metas.Given as goal

abbrev pub invariant-loop-meta : goal.invariant-loop-meta
invariant-loop-meta l =
    (first_fault (meta_tests l.sorts l.funs [] (map rmeta l.metas)) ≡ first_fault (meta_tests l.sorts l.funs l.names (map rmeta (drop l.meta-index l.metas))))
    × (map (λ m. m.name.name) (map rmeta l.metas) ≡ l.names ++ map (λ m. (rmeta m).name.name) (drop l.meta-index l.metas))
    × (map (declared_by l.sorts) (map rmeta l.metas) ≡ declared_metas l.declared ++ map (λ m. declared_by l.sorts (rmeta m)) (drop l.meta-index l.metas))
    × (length l.names ≡ l.meta-index)
