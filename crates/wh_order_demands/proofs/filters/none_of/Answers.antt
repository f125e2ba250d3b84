use Rattle.std.proofs.Common.{◌≡◌, subst, arith}
use Rattle.wh_order_demands.specs.OrderDemands.{IsNoneSet}
use Rattle.wh_order_demands.proofs.FilterLemmas.{none_first, none_next}
use Rattle.wh_order_demands.proofs.filters.none_of.Goals as goal

pub loop-place-init : goal.loop-place-init
loop-place-init c = none_first c.args.first

pub loop-place-preserved : goal.loop-place-preserved
loop-place-preserved c =
    none_next c.args.first c.loop-place.place c.in_ok-bit.bit c.loop-place.found c.in_ok-found.found c.in_ok-bit.ensures c.in_ok-found.ensures c.loop-place.invariant

pub returns : goal.returns
returns c =
    let all : c.loop-place.place ≡ c.args.count = omega arith in
    subst (λ n. IsNoneSet c.args.first n c.loop-place.found) all c.loop-place.invariant
