use Rattle.std.proofs.Common.{get_or, length, ◌≡◌, refl, arith}
use Rattle.wh_order_space.proofs.SpotLemmas.{spot_told}
use Rattle.wh_order_space.proofs.spots.spot_with.Goals as goal

pub returns : goal.returns
returns c =
    let scope = c.index-scopes-number.result in
    let places : c.in_ok-places.places ≡ length scope.items = omega (arith, c.in_ok-places.ensures, c.len.ensures, scope.ok.0) in
    spot_told c.args.scopes.now c.args.first_bits.now c.args.number (get_or c.args.first_bits.now c.args.number 0) c.in_ok-places.places scope c.if-number-scopes.false
    c.index-scopes-number.is refl places
