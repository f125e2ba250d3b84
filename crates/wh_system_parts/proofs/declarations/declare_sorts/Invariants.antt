use Rattle.std.proofs.Common.{◌≡◌, ◌++◌, [], drop, map, length}
use Rattle.wh_system_parts.specs.Erase.{rname}
use Rattle.wh_system_parts.specs.Faults.{first_fault}
use Rattle.wh_system_parts.specs.Tests.{names_tests}
use Rattle.wh_system_parts.proofs.declarations.declare_sorts.Given as goal

abbrev pub invariant-loop-sort : goal.invariant-loop-sort
invariant-loop-sort l =
    (first_fault (names_tests [] [] (map rname l.sorts)) ≡ first_fault (names_tests [] l.table (map rname (drop l.sort-index l.sorts))))
    × (map (λ s. s.name) (map rname l.sorts) ≡ l.table ++ map (λ s. (rname s).name) (drop l.sort-index l.sorts))
    × (length l.table ≡ l.sort-index)
