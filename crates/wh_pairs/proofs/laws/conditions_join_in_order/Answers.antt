use Rattle.wh_pairs.proofs.OrderLaws.{with_in_order, with_member, member_with}
use Rattle.wh_pairs.proofs.laws.conditions_join_in_order.Goals as goal

pub returns : goal.returns
returns c = record { order = with_in_order; members = λ c cs d. (with_member c cs d, member_with c cs d) }
