use Rattle.std.proofs.Common.{Contains}
use Rattle.wh_graph.specs.Least.{LeastOf}
use Rattle.wh_graph.proofs.LeastLemmas.{Among}
use Rattle.wh_graph.proofs.places.least_stray_in.Given as goal

abbrev pub invariant-loop-number : goal.invariant-loop-number
invariant-loop-number l = LeastOf (Among (λ n. Contains l.set n → ⊥) l.list l.number-index) l.least
