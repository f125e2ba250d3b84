use Rattle.std.proofs.Common.{◌≡◌, take}
use Rattle.wh_cert_upgrade.proofs.nodes.copy_filters.Given as goal

abbrev pub invariant-loop-item : goal.invariant-loop-item
invariant-loop-item l = l.copies ≡ take l.item-index l.items
