use Rattle.std.proofs.Common.{IfOk, None, refl, subst, sym}
use Rattle.wh_order_space.specs.Spotted.{IsSpotted}
use Rattle.wh_order_space.proofs.spots.spot_at.Goals as goal

pub returns-in-None : goal.returns-in-None
returns-in-None c = subst (λ o. IsSpotted c.args.scopes.now c.args.first_bits.now o None) (sym c.in-None.is) refl

pub returns-in-Some : goal.returns-in-Some
returns-in-Some c =
    subst (λ o. IfOk c.spot_with.result (IsSpotted c.args.scopes.now c.args.first_bits.now o)) (sym c.in-Some.is) c.spot_with.ensures
