use Rattle.std.proofs.Common.{◌++◌, refl, arith}
use Rattle.wh_terms.specs.Erase.{tm}
use Rattle.wh_order_demands.specs.Views.{items_data}
use Rattle.wh_order_demands.specs.Plans.{parts_data, right_parts}
use Rattle.wh_order_demands.proofs.PutLemmas.{right_next, right_all}
use Rattle.wh_order_demands.proofs.plan.put_right.Goals as goal

pub loop-place-init : goal.loop-place-init
loop-place-init c = record { whole = refl }

pub loop-place-preserved : goal.loop-place-preserved
loop-place-preserved c =
    right_next (parts_data c.args.parts.now.items ++ right_parts c.args.first c.args.second c.args.claim (tm c.args.left.now) (items_data c.args.g.now.items.items)) c.args.claim (tm c.args.left.now) c.args.g.now.items.items
    c.loop-place.parts.items c.push.new.self.items _ c.index.result.now c.loop-place.bit c.in_ok-bit.bit c.loop-place.other c.in_ok-other.other c.loop-place.place
    c.loop-place.invariant (omega arith) c.index.ensures refl c.in_ok-push.ensures.items c.in_ok-bit.ensures c.in_ok-other.ensures

pub returns : goal.returns
returns c =
    right_all (parts_data c.args.parts.now.items ++ right_parts c.args.first c.args.second c.args.claim (tm c.args.left.now) (items_data c.args.g.now.items.items)) c.args.claim (tm c.args.left.now) c.args.g.now.items.items
    c.loop-place.parts.items c.loop-place.bit c.loop-place.other c.loop-place.place c.loop-place.invariant (omega arith)
