use Rattle.std.proofs.Common.{subst}
use Rattle.wh_order_demands.specs.OrderDemands.{IsBitBetween}
use Rattle.wh_order_demands.proofs.OrderLemmas.{compared_met}
use Rattle.wh_order_demands.proofs.orders.compared.Goals as goal

pub returns-in-Some-Some : goal.returns-in-Some-Some
returns-in-Some-Some c =
    let spots = c.args.spots.now in
    compared_met spots c.args.first c.args.second c.in-Some-Some.there c.in-Some-Some.back c.either.result
    (subst (IsBitBetween spots c.args.first c.args.second) c.in-Some-Some.is-0 c.in_ok-there.ensures)
    (subst (IsBitBetween spots c.args.second c.args.first) c.in-Some-Some.is-1 c.in_ok-back.ensures) c.either.ensures
