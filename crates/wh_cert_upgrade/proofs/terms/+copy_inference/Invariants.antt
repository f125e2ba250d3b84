use Rattle.std.proofs.Common.{◌≡◌, take, map}
use Rattle.wh_order_inference.specs.Said.{inference}
use Rattle.wh_cert_upgrade.proofs.terms.+copy_inference.Given as goal

abbrev pub invariant-copy_inferences-loop-item : goal.invariant-copy_inferences-loop-item
invariant-copy_inferences-loop-item l = map inference l.copies ≡ map inference (take l.item-index l.item-items)
