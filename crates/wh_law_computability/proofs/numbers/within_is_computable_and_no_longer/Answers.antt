-- By induction on ranks, and within a rank on the bound.
use Rattle.wh_law_computability.proofs.NumberLaws.{within-computable}
use Rattle.wh_law_computability.proofs.numbers.within_is_computable_and_no_longer.Goals as goal

pub returns : goal.returns
returns c S rules rank n s t made known = within-computable made known rank n s t
