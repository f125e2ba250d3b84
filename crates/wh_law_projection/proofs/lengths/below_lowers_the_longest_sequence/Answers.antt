-- Direct subterms lead from the value of the left side to that of its part.
use Rattle.wh_law_projection.proofs.ProjectedLaws.{below_lowers}
use Rattle.wh_law_projection.proofs.lengths.below_lowers_the_longest_sequence.Goals as goal

pub returns : goal.returns
returns k S rules pairs set drop args p c d made is inside below good leads = below_lowers made args p c d below good leads
