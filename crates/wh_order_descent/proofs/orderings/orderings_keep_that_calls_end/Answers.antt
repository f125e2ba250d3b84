-- The inferences show of each rule and of each pair what the law asks.
use Rattle.wh_order_descent.proofs.OrderedCalls.{ordering_ends}
use Rattle.wh_order_descent.proofs.orderings.orderings_keep_that_calls_end.Goals as goal

pub returns : goal.returns
returns c T D E rest made sorts typed patterns whole is kept smaller = ordering_ends T D E is made sorts typed patterns whole rest kept smaller
