use Rattle.std.proofs.Common.{subst}
use Rattle.wh_order_demands.specs.OrderDemands.{IsBitBetween}
use Rattle.wh_order_demands.proofs.OrderLemmas.{passed_met}
use Rattle.wh_order_demands.proofs.orders.passed_on.Goals as goal

pub returns-in_ok-not_both-in-Some-Some-Some : goal.returns-in_ok-not_both-in-Some-Some-Some
returns-in_ok-not_both-in-Some-Some-Some c =
    let spots = c.args.spots.now in
    let w = c.in-Some-Some-Some in
    passed_met spots c.args.first c.args.second c.args.third w.near w.next w.far c.in_ok-not_both-in-Some-Some-Some.not_both c.either-in-Some-Some-Some.result
    (subst (IsBitBetween spots c.args.first c.args.second) w.is-0 c.in_ok-near.ensures) (subst (IsBitBetween spots c.args.second c.args.third) w.is-1 c.in_ok-next.ensures)
    (subst (IsBitBetween spots c.args.first c.args.third) w.is-2 c.in_ok-far.ensures) c.in_ok-not_both-in-Some-Some-Some.ensures c.either-in-Some-Some-Some.ensures
