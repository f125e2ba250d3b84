-- The projected argument stays or steps.
use Rattle.wh_law_projection.proofs.ProjectedLaws.{steps_lower}
use Rattle.wh_law_projection.proofs.lengths.steps_do_not_raise_the_longest_sequence.Goals as goal

pub returns : goal.returns
returns k S rules pairs set drop args c d n made is good step here = steps_lower made args c d n good step here
