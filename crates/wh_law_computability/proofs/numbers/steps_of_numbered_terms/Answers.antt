-- They are computable by the family.
use Rattle.wh_law_computability.proofs.NumberLaws.{numbered-step}
use Rattle.wh_law_computability.proofs.numbers.steps_of_numbered_terms.Goals as goal

pub returns : goal.returns
returns c S rules rank a t u made known h s = numbered-step made known rank a t u h s
