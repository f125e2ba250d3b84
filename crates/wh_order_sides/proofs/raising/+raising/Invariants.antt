use Rattle.std.proofs.Common.{◌≡◌, take}
use Rattle.wh_terms.specs.Erase.{tms}
use Rattle.wh_terms.specs.Substitution.{renames}
use Rattle.wh_order_sides.specs.Growth.{past}
use Rattle.wh_order_sides.proofs.raising.+raising.Given as goal

abbrev pub invariant-raise_each-loop-item : goal.invariant-raise_each-loop-item
invariant-raise_each-loop-item l = tms l.results ≡ renames (past l.depth) (tms (take l.item-index l.item-items))
