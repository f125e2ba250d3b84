-- The projected arguments are one term.
use Rattle.wh_law_projection.proofs.ProjectedLaws.{equal_keeps}
use Rattle.wh_law_projection.proofs.lengths.equal_keeps_the_longest_sequence.Goals as goal

pub returns : goal.returns
returns k S rules pairs set drop args p c d made is inside equal good leads = equal_keeps made args p c d equal good leads
