use Rattle.std.proofs.Common.{map}
use Rattle.wh_pairs.specs.PairData.{pair_data}
use Rattle.wh_system.specs.SystemView.{system_data}
use Rattle.wh_graph.specs.Least.{LeastOf}
use Rattle.wh_graph.specs.May.{Follows}
use Rattle.wh_graph.proofs.LeastLemmas.{AmongBlocks}
use Rattle.wh_graph.proofs.back_edges.least_follower.Given as goal

abbrev pub invariant-loop-block : goal.invariant-loop-block
invariant-loop-block l = LeastOf (AmongBlocks (Follows (system_data l.system).rules (map pair_data l.pairs) l.number) l.blocks l.block-index) l.least
