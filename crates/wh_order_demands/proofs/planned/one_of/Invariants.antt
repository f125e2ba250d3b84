use Rattle.wh_order_demands.proofs.PlannedLemmas.{MeetsBits}
use Rattle.wh_order_demands.proofs.planned.one_of.Given as goal

abbrev pub invariant-loop-place : goal.invariant-loop-place
invariant-loop-place l = MeetsBits l.first l.place l.found
