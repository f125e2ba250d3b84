use Rattle.std.proofs.Common.{take, map}
use Rattle.wh_pairs.specs.PairData.{within}
use Rattle.wh_pairs.specs.Conditions.{AreAmong}
use Rattle.wh_pairs_making.proofs.conditions.are_among.Given as goal

abbrev pub invariant-loop-condition : goal.invariant-loop-condition
invariant-loop-condition l = AreAmong (map within (take l.condition-index l.few)) (map within l.many)
