use Rattle.std.proofs.Common.{◌≡◌, ◌++◌, map, take, drop}
use Rattle.wh_pairs.specs.PairData.{within}
use Rattle.wh_pairs.specs.Conditions.{with_condition}
use Rattle.wh_pairs_calls.proofs.conditions.with_condition.Given as goal

abbrev pub invariant-loop-i : goal.invariant-loop-i
invariant-loop-i l =
    (l.all.items ≡ l.conditions)
    × (with_condition (within l.added) (map within l.conditions)
    ≡ map within (take l.i l.conditions) ++ with_condition (within l.added) (map within (drop l.i l.conditions)))
