use Rattle.wh_pairs.proofs.OrderLaws.{candidates_in_order}
use Rattle.wh_pairs.proofs.laws.conditions_are_in_order.Goals as goal

pub returns : goal.returns
returns c = candidates_in_order
