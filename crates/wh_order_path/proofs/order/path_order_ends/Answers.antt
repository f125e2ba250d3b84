-- By computability.
use Rattle.wh_order_path.proofs.OrderEnds.{path_order_ends}
use Rattle.wh_order_path.proofs.order.path_order_ends.Goals as goal

pub returns : goal.returns
returns c F prec t a known one p = path_order_ends F prec known one t a p
