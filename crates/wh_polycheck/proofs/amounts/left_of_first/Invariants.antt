use Rattle.std.proofs.Common.{◌-◌, ◌≡◌, drop}
use Rattle.wh_hopoly.specs.Moves.{given_by}
use Rattle.wh_hopoly.specs.Erase.{transfers}
use Rattle.wh_polycheck.proofs.amounts.left_of_first.Given as goal

abbrev pub invariant-loop-item : goal.invariant-loop-item
invariant-loop-item l = l.left - given_by 0 (transfers (drop l.item-index l.moves)) ≡ l.coefficient - given_by 0 (transfers l.moves)
