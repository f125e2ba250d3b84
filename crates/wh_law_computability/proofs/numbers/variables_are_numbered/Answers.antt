-- They are computable by the family.
use Rattle.wh_law_computability.proofs.NumberLaws.{numbered-free}
use Rattle.wh_law_computability.proofs.numbers.variables_are_numbered.Goals as goal

pub returns : goal.returns
returns c S rules rank x a made known sorts = numbered-free made known rank x a sorts
