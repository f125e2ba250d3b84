use Rattle.std.proofs.Common.{◌≡◌, take, map}
use Rattle.wh_cert.specs.Said.{said_interp}
use Rattle.wh_cert_upgrade.proofs.nodes.copy_interps.Given as goal

abbrev pub invariant-loop-item : goal.invariant-loop-item
invariant-loop-item l = map said_interp l.copies ≡ map said_interp (take l.item-index l.items)
