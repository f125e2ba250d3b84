-- By the types of its declarations.
use Rattle.wh_order_descent.proofs.PatternPairs.{known_sorts}
use Rattle.wh_order_descent.proofs.orderings.systems_have_known_sorts.Goals as goal

pub returns : goal.returns
returns c d made = known_sorts d made
