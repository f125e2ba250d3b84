-- The choices name each symbol once.
use Rattle.wh_law_projection.proofs.ProjectedLaws.{length_one}
use Rattle.wh_law_projection.proofs.lengths.projected_lengths_are_unique.Goals as goal

pub returns : goal.returns
returns k rules pairs set drop args c n m is here there = length_one args c n m is.marked.in_order here there
