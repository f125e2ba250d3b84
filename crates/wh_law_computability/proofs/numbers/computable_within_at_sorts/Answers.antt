-- The height of the recursion on ranks does not matter, since computability by the family has none.
use Rattle.wh_law_computability.proofs.NumberLaws.{within-unfolded}
use Rattle.wh_law_computability.proofs.numbers.computable_within_at_sorts.Goals as goal

pub returns : goal.returns
returns c S rules rank n s t made known = within-unfolded made known rank n s t
