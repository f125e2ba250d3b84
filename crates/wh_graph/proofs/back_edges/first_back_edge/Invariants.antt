use Rattle.std.proofs.Common.{map, ℕ}
use Rattle.wh_pairs.specs.PairData.{pair_data}
use Rattle.wh_system.specs.SystemView.{system_data}
use Rattle.wh_graph.specs.Blocks.{IsBackEdge}
use Rattle.wh_graph.specs.May.{Follows}
use Rattle.wh_pairs.proofs.ByPlace.{Before}
use Rattle.wh_graph.proofs.back_edges.first_back_edge.Given as goal

abbrev pub invariant-loop-number : goal.invariant-loop-number
invariant-loop-number l = (Before (λ a. (b : ℕ) → IsBackEdge (Follows (system_data l.system).rules (map pair_data l.pairs)) l.blocks a b → ⊥) l.set l.number-index)
