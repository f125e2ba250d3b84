use Rattle.wh_pairs.specs.PairData.{pair_data}
use Rattle.wh_system.specs.SystemView.{system_data}
use Rattle.wh_graph.specs.May.{Follows}
use Rattle.wh_graph.proofs.GraphLemmas.{AreListsTo}
use Rattle.std.proofs.Common.{map}
use Rattle.wh_graph.proofs.edges.followers_of.Given as goal

abbrev pub invariant-loop-number : goal.invariant-loop-number
invariant-loop-number l = AreListsTo (Follows (system_data l.system).rules (map pair_data l.pairs)) l.number l.rows.items
