use Rattle.std.proofs.Common.{◌≡◌, take, map}
use Rattle.wh_cert.specs.Said.{said_node}
use Rattle.wh_cert_upgrade.proofs.nodes.copy_nodes.Given as goal

abbrev pub invariant-loop-node : goal.invariant-loop-node
invariant-loop-node l = map said_node l.copies ≡ map said_node (take l.node-index l.nodes)
