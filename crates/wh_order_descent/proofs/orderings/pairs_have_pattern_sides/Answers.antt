-- A pair is the candidate of a call of a rule.
use Rattle.wh_order_descent.proofs.PatternPairs.{pattern_sides}
use Rattle.wh_order_descent.proofs.orderings.pairs_have_pattern_sides.Goals as goal

pub returns : goal.returns
returns c d pairs made are p there = pattern_sides d made pairs are p there
