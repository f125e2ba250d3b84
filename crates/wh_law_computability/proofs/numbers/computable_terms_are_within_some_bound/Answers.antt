-- The longest sequence of steps and direct subterms is a bound.
use Rattle.wh_law_computability.proofs.NumberLaws.{computable-within_some}
use Rattle.wh_law_computability.proofs.numbers.computable_terms_are_within_some_bound.Goals as goal

pub returns : goal.returns
returns c S rules rank s t made known h = computable-within_some made known rank s t h
