use Rattle.std.proofs.Common.{◌≡◌, take}
use Rattle.wh_pairs_making.proofs.conditions.conditions_of.Given as goal

abbrev pub invariant-loop-condition : goal.invariant-loop-condition
invariant-loop-condition l = l.list ≡ take l.condition-index l.conditions
