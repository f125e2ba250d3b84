-- They are computable by the family.
use Rattle.wh_law_computability.proofs.NumberLaws.{numbered-neutral}
use Rattle.wh_law_computability.proofs.numbers.neutral_terms_are_numbered.Goals as goal

pub returns : goal.returns
returns c S rules rank a t made known p n h = numbered-neutral made known rank a t p n h
