use Rattle.wh_graph.specs.Times.{IsUneven}
use Rattle.wh_pairs.proofs.ByPlace.{Before}
use Rattle.wh_graph.proofs.places.first_uneven.Given as goal

abbrev pub invariant-loop-place : goal.invariant-loop-place
invariant-loop-place l = Before (λ n. IsUneven l.set l.blocks n → ⊥) l.set l.place
