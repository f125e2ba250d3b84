use Rattle.std.proofs.Common.{map}
use Rattle.wh_pairs.specs.PairData.{pair_data}
use Rattle.wh_system.specs.SystemView.{system_data}
use Rattle.wh_graph.specs.May.{Follows}
use Rattle.wh_graph.proofs.GraphLemmas.{HasBelow}
use Rattle.wh_graph.proofs.edges.row_of.Given as goal

abbrev pub invariant-loop-other : goal.invariant-loop-other
invariant-loop-other l = HasBelow (Follows (system_data l.system).rules (map pair_data l.pairs) l.number) l.other l.row
