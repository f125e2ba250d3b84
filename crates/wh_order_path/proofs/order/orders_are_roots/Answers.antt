-- By the inferences of instances.
use Rattle.wh_order_path.proofs.RootTyping.{root_is}
use Rattle.wh_order_path.proofs.order.orders_are_roots.Goals as goal

pub returns : goal.returns
returns c F prec = root_is F prec
