-- By induction on ranks, and within a rank on the type and on the bound.
use Rattle.wh_law_computability.proofs.NumberLaws.{numbered-computable}
use Rattle.wh_law_computability.proofs.numbers.numbered_terms_are_computable.Goals as goal

pub returns : goal.returns
returns c S rules rank a t made known = numbered-computable made known rank a t
