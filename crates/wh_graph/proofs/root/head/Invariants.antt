use Rattle.std.proofs.Common.{◌≡◌}
use Rattle.wh_terms.specs.Tree.{head}
use Rattle.wh_terms.specs.Erase.{tm}
use Rattle.wh_graph.proofs.root.head.Given as goal

abbrev pub invariant-loop-here : goal.invariant-loop-here
invariant-loop-here l = head (tm l.term) ≡ head (tm l.here)
