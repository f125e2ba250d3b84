use Rattle.wh_order.proofs.PrecedenceLemmas.{MarksFrom}
use Rattle.wh_order.proofs.precedence.of_mark.Given as goal

abbrev pub invariant-loop-mark : goal.invariant-loop-mark
invariant-loop-mark l = MarksFrom l.mark-items l.symbol l.mark-index
