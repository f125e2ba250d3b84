use Rattle.std.proofs.Common.{drop, map}
use Rattle.wh_text.proofs.PrintLemmas.{Leaves}
use Rattle.wh_cert.specs.Text.{put_nodes}
use Rattle.wh_cert.specs.Said.{said_node}
use Rattle.wh_cert_print.proofs.print.print_nodes.Given as goal

-- the rest of the list is left to push
abbrev pub invariant-loop-node : goal.invariant-loop-node
invariant-loop-node l = Leaves l.initial.out l.out (put_nodes (map said_node (drop l.node-index l.nodes))) (put_nodes (map said_node l.nodes))
