use Rattle.std.proofs.Common.{◌≡◌, []}
use Rattle.wh_pairs.proofs.ByPlace.{Before}
use Rattle.wh_graph.proofs.blocks.are_few.Given as goal

abbrev pub invariant-loop-block : goal.invariant-loop-block
invariant-loop-block l = (Before (λ b. b ≡ [] → ⊥) l.blocks l.block-index)
