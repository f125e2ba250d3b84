use Rattle.std.proofs.Common.{◌≡◌, length, arith, ap, sym, subst}
use Rattle.wh_order_space.specs.Spotted.{AreSpotted}
use Rattle.wh_order_space.proofs.SpotLemmas.{spotted_none}
use Rattle.wh_order_space.proofs.spots.spots_of.Goals as goal

pub returns : goal.returns
returns c =
    let none : AreSpotted c.args.symbols c.args.marked.now c.args.scopes.now c.args.first_bits.now c.new-spots.result.items =
    subst (AreSpotted c.args.symbols c.args.marked.now c.args.scopes.now c.args.first_bits.now) (sym c.new-spots.ensures.items)
    (spotted_none c.args.symbols c.args.marked.now c.args.scopes.now c.args.first_bits.now) in
    let empty : length c.new-spots.result.items ≡ 0 = ap length c.new-spots.ensures.items in
    record {
      spotted = c.in_ok-add_spots-2.ensures.spotted (c.in_ok-add_spots.ensures.spotted none);
      count = omega (arith, empty, c.in_ok-add_spots.ensures.count, c.in_ok-add_spots-2.ensures.count);
    }
