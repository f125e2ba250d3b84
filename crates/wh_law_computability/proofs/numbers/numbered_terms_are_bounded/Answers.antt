-- They are computable by the family.
use Rattle.wh_law_computability.proofs.NumberLaws.{numbered-bounded}
use Rattle.wh_law_computability.proofs.numbers.numbered_terms_are_bounded.Goals as goal

pub returns : goal.returns
returns c S rules rank a t made known h = numbered-bounded made known rank a t h
