use Rattle.wh_order.proofs.GoalLemmas.{PushedPairs}
use Rattle.wh_order.proofs.goals.push_pairs.Given as goal

abbrev pub invariant-loop-i : goal.invariant-loop-i
invariant-loop-i l = PushedPairs l.next l.lefts l.rights l.initial.goals.items l.goals.items l.i
