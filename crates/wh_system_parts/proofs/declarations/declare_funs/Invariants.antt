use Rattle.std.proofs.Common.{◌≡◌, ◌++◌, [], drop, map, length}
use Rattle.wh_types.specs.Erase.{tys}
use Rattle.wh_system_parts.specs.Erase.{rfun}
use Rattle.wh_system_parts.specs.Faults.{first_fault}
use Rattle.wh_system_parts.specs.RuleTests.{type_of_raw}
use Rattle.wh_system_parts.specs.Tests.{fun_tests}
use Rattle.wh_system_parts.proofs.declarations.declare_funs.Given as goal

abbrev pub invariant-loop-fun : goal.invariant-loop-fun
invariant-loop-fun l =
    (first_fault (fun_tests l.sorts [] (map rfun l.funs)) ≡ first_fault (fun_tests l.sorts l.names (map rfun (drop l.fun-index l.funs))))
    × (map (λ f. f.name.name) (map rfun l.funs) ≡ l.names ++ map (λ f. (rfun f).name.name) (drop l.fun-index l.funs))
    × (map (λ f. type_of_raw l.sorts f.kind) (map rfun l.funs) ≡ tys l.kinds ++ map (λ f. type_of_raw l.sorts (rfun f).kind) (drop l.fun-index l.funs))
    × (length l.names ≡ l.fun-index)
