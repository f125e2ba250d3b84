use Rattle.std.proofs.Common.{Contains}
use Rattle.wh_graph.specs.Least.{LeastOf}
use Rattle.wh_graph.proofs.LeastLemmas.{AmongBlocks}
use Rattle.wh_graph.proofs.places.least_stray.Given as goal

abbrev pub invariant-loop-block : goal.invariant-loop-block
invariant-loop-block l = LeastOf (AmongBlocks (λ n. Contains l.set n → ⊥) l.blocks l.block-index) l.least
