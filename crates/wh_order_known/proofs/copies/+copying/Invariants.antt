use Rattle.std.proofs.Common.{◌≡◌, take}
use Rattle.wh_order_known.specs.Plain.{plains}
use Rattle.wh_order_known.proofs.copies.+copying.Given as goal

abbrev pub invariant-copy_each-loop-item : goal.invariant-copy_each-loop-item
invariant-copy_each-loop-item l = plains l.results ≡ plains (take l.item-index l.item-items)
