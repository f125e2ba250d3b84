use Rattle.wh_order.specs.Claims.{said}
use Rattle.wh_order.proofs.GoalLemmas.{PushedEach}
use Rattle.wh_order.proofs.goals.push_each.Given as goal

abbrev pub invariant-loop-right : goal.invariant-loop-right
invariant-loop-right l = PushedEach (said l.claim) l.next l.left l.rights l.initial.goals.items l.goals.items l.right-index
