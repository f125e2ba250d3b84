use Rattle.std.proofs.Common.{◌<◌, arith}
use Rattle.std.proofs.lemmas.List.Elements.{All-get_or}
use Rattle.wh_graph.specs.Graphs.{edge_of, size_of}
use Rattle.wh_prover.proofs.NodeLemmas.{alone_decided}
use Rattle.wh_prover.proofs.node.is_alone.Goals as goal

pub has_edge-requires : goal.has_edge-requires
has_edge-requires c = All-get_or (λ n. n < size_of c.args.graph.now) c.args.set.now 0 0 (omega (arith, c.if-set-ne1.false)) c.requires

pub returns : goal.returns
returns c = alone_decided (edge_of c.args.graph.now) c.args.set.now c.has_edge.result c.if-set-ne1.false c.has_edge.ensures
