use Rattle.std.proofs.Common.{◌++◌, ◌≤◌, ◌⊎◌, length, refl, arith}
use Rattle.wh_order_demands.specs.Views.{items_data}
use Rattle.wh_order_demands.specs.Plans.{parts_data, pair_parts}
use Rattle.wh_order_demands.proofs.PutLemmas.{pairs_all}
use Rattle.wh_order_demands.proofs.plan.put_pairs.Goals as goal

pub loop-place-init : goal.loop-place-init
loop-place-init c = record { whole = refl }

pub returns : goal.returns
returns c =
    let ss = c.args.f.now.items.items in
    let ts = c.args.g.now.items.items in
    let ended : (length ss ≤ c.loop-place.place) ⊎ (length ts ≤ c.loop-place.place) = grind arith in
    pairs_all (parts_data c.args.parts.now.items ++ pair_parts c.args.f.now.first c.args.second c.args.claim (items_data ss) (items_data ts)) c.args.claim ss ts
    c.loop-place.parts.items c.loop-place.bit c.loop-place.other c.loop-place.place c.loop-place.invariant ended
