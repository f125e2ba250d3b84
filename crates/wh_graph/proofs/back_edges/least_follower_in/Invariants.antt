use Rattle.std.proofs.Common.{map}
use Rattle.wh_pairs.specs.PairData.{pair_data}
use Rattle.wh_system.specs.SystemView.{system_data}
use Rattle.wh_graph.specs.Least.{LeastOf}
use Rattle.wh_graph.specs.May.{Follows}
use Rattle.wh_graph.proofs.LeastLemmas.{Among}
use Rattle.wh_graph.proofs.back_edges.least_follower_in.Given as goal

abbrev pub invariant-loop-other : goal.invariant-loop-other
invariant-loop-other l = LeastOf (Among (Follows (system_data l.system).rules (map pair_data l.pairs) l.number) l.list l.other-index) l.least
