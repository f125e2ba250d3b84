use Rattle.wh_order_space.proofs.SideLemmas.{sides_told, no_claim}
use Rattle.wh_order_space.proofs.sides.between.Goals as goal

pub returns-in-Some-Some : goal.returns-in-Some-Some
returns-in-Some-Some c =
    let w = c.in-Some-Some in
    sides_told c.args.spots.now c.args.claim c.args.from.now c.args.to.now w.from w.to c.deref.result.now c.deref-in-Some-Some.result.now c.demand_of.result w.is-0 w.is-1 c.deref.ensures c.deref-in-Some-Some.ensures
    c.demand_of.ensures

pub returns-in_default : goal.returns-in_default
returns-in_default c = λ s t first second. no_claim c.args.spots.now c.args.claim s t
