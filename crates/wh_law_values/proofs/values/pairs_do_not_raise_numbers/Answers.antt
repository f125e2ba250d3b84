-- The right side is worth no more than the left one, and the number is the least bound.
use Rattle.wh_law_values.proofs.CallNumbers.{pair_numbers}
use Rattle.wh_law_values.proofs.values.pairs_do_not_raise_numbers.Goals as goal

pub returns : goal.returns
returns k T R E p ms c d n m made is typed closed inside shown good s here there =
    pair_numbers T R E is made typed closed p inside c d n m good s here there ms shown
