use Rattle.wh_order_demands.proofs.OrderLemmas.{always_met, join_all}
use Rattle.wh_order_demands.proofs.orders.orders_of_three.Goals as goal

pub returns-then-second-third : goal.returns-then-second-third
returns-then-second-third c = always_met c.args.spots.now

pub returns : goal.returns
returns c =
    join_all c.args.spots.now c.in_ok-from.from c.in_ok-through.through c.in_ok-to.to c.in_ok-rest.rest c.both-2.result c.in_ok-from.ensures c.in_ok-through.ensures c.in_ok-to.ensures
    c.in_ok-rest.ensures c.both-2.ensures
