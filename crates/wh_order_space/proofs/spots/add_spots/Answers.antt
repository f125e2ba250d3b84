use Rattle.std.proofs.Common.{◌≡◌, ◌++◌, [], ◌∷◌, List, Option, length, arith, ap, sym, subst}
use Rattle.std.proofs.lemmas.List.{length_push}
use Rattle.wh_order_demands.specs.declared.view.Spot.{Spot}
use Rattle.wh_order_space.specs.Spotted.{AreSpotted, IsNumber}
use Rattle.wh_order_space.proofs.SpotLemmas.{spotted_more}
use Rattle.wh_order_space.proofs.spots.add_spots.Goals as goal

pub loop-preserved : goal.loop-preserved
loop-preserved c =
    let spots : List (Option Spot) = c.loop.spots.items in
    let found = c.in_ok-spot_at.field-0 in
    let number = c.number_of-number.result in
    let is : c.push.new.self.items ≡ spots ++ found ∷ [] = c.in_ok-push.ensures.items in
    let long : c.len.result ≡ length spots = omega (arith, c.len.ensures, c.loop.spots.ok.0) in
    let last : IsNumber c.args.symbols c.args.marked.now (length spots) number =
    subst (λ n. IsNumber c.args.symbols c.args.marked.now n number) long c.number_of-number.ensures in
    record {
      spotted = λ before. subst (AreSpotted c.args.symbols c.args.marked.now c.args.scopes.now c.args.first_bits.now) (sym is)
          (spotted_more c.args.symbols c.args.marked.now c.args.scopes.now c.args.first_bits.now spots number found (c.loop.invariant.spotted before) last c.in_ok-spot_at.ensures);
      count = omega (arith, ap length is, length_push spots found, c.loop.invariant.count);
    }
