-- The height of the recursion on ranks does not matter.
use Rattle.wh_law_computability.proofs.NumberLaws.{numbered-arrow}
use Rattle.wh_law_computability.proofs.numbers.numbered_at_arrows.Goals as goal

pub returns : goal.returns
returns c S rules rank a b t made known = numbered-arrow made known rank a b t
