use Rattle.std.proofs.Common.{◌≡◌, map, take}
use Rattle.wh_terms.specs.Erase.{tm}
use Rattle.wh_hopoly.specs.Erase.{expression}
use Rattle.wh_polycheck.specs.Sides.{side}
use Rattle.wh_polycheck.proofs.expressions.expressions_of.Given as goal

abbrev pub invariant-loop-item : goal.invariant-loop-item
invariant-loop-item l = map expression l.expressions.items ≡ map (λ t. side l.scope (tm t)) (take l.item-index l.item-items)
