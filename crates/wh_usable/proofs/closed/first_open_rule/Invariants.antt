use Rattle.wh_pairs.proofs.ByPlace.{Before}
use Rattle.wh_reduction_pairs.specs.TaskView.{task_data}
use Rattle.wh_usable.specs.Closed.{IsClosedRule}
use Rattle.wh_usable.proofs.Firsts.{IsAt}
use Rattle.wh_usable.proofs.closed.first_open_rule.Given as goal

abbrev pub invariant-loop-number : goal.invariant-loop-number
invariant-loop-number l = let T = task_data l.task in Before (IsAt (IsClosedRule T.symbols T.rules T.covered) T.rules) T.covered l.number-index
