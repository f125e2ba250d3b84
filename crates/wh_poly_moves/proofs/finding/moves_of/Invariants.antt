use Rattle.std.proofs.Common.{◌≡◌, take}
use Rattle.wh_hopoly.specs.Erase.{transfers}
use Rattle.wh_poly_moves.specs.Flows.{positives}
use Rattle.wh_poly_moves.proofs.finding.moves_of.Given as goal

abbrev pub invariant-loop-item : goal.invariant-loop-item
invariant-loop-item l = transfers l.list ≡ positives (take l.item-index (transfers l.items))
