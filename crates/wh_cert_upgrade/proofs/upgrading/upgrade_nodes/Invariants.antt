use Rattle.std.proofs.Common.{◌≡◌, take, map}
use Rattle.wh_cert.specs.Said.{said_node}
use Rattle.wh_cert_upgrade.proofs.Copies.{upgraded_said}
use Rattle.wh_cert_upgrade.proofs.upgrading.upgrade_nodes.Given as goal

abbrev pub invariant-loop-node : goal.invariant-loop-node
invariant-loop-node l = map said_node l.made ≡ map (upgraded_said l.rules) (take l.node-index l.nodes)
