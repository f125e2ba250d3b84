use Rattle.std.proofs.Common.{◌≤◌}
use Rattle.wh_order_demands.proofs.near.count_near.Given as goal

abbrev pub invariant-loop-symbol : goal.invariant-loop-symbol
invariant-loop-symbol l = l.count ≤ l.symbol-index
