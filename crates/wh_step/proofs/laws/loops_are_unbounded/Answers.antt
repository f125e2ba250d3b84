-- Round the loop as often as it takes.
use Rattle.wh_step.proofs.Walks.{loop_endless}
use Rattle.wh_step.specs.Step.{Step}
use Rattle.wh_step.proofs.laws.loops_are_unbounded.Goals as goal

pub returns : goal.returns
returns c rules t l w n e = loop_endless (Step rules) t l w n e
