-- Each value is the one that the function gives.
use Rattle.wh_terms.proofs.ValueLaws.{value_one}
use Rattle.wh_terms.proofs.laws.one_value.Goals as goal

pub returns : goal.returns
returns c g m v w p q = value_one p q
