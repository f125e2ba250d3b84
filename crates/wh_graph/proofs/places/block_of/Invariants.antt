use Rattle.std.proofs.Common.{ℕ, ◌<◌}
use Rattle.wh_graph.specs.Components.{IsIn}
use Rattle.wh_graph.proofs.places.block_of.Given as goal

abbrev pub invariant-loop-i : goal.invariant-loop-i
invariant-loop-i l = (k : ℕ) → k < l.i → IsIn l.blocks k l.number → ⊥
