use Rattle.wh_order_check.proofs.Orderings.{orients_or_fault}
use Rattle.wh_order_check.proofs.laws.orders_orient_or_have_a_first_fault.Goals as goal

pub returns : goal.returns
returns c T D E filters = orients_or_fault T D E filters
