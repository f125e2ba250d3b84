use Rattle.std.proofs.Common.{◌++◌, refl, arith}
use Rattle.wh_terms.specs.Erase.{tm}
use Rattle.wh_order_demands.specs.Views.{items_data}
use Rattle.wh_order_demands.specs.Plans.{parts_data, left_parts}
use Rattle.wh_order_demands.proofs.PutLemmas.{left_next, left_all}
use Rattle.wh_order_demands.proofs.plan.put_left.Goals as goal

pub loop-place-init : goal.loop-place-init
loop-place-init c = record { whole = refl }

pub loop-place-preserved : goal.loop-place-preserved
loop-place-preserved c =
    left_next (parts_data c.args.parts.now.items ++ left_parts c.args.first c.args.second c.args.claim (items_data c.args.f.now.items.items) (tm c.args.right.now)) c.args.claim c.args.f.now.items.items (tm c.args.right.now)
    c.loop-place.parts.items c.push.new.self.items _ c.index.result.now c.loop-place.bit c.in_ok-bit.bit c.loop-place.other c.in_ok-other.other c.loop-place.place
    c.loop-place.invariant (omega arith) c.index.ensures refl c.in_ok-push.ensures.items c.in_ok-bit.ensures c.in_ok-other.ensures

pub returns : goal.returns
returns c =
    left_all (parts_data c.args.parts.now.items ++ left_parts c.args.first c.args.second c.args.claim (items_data c.args.f.now.items.items) (tm c.args.right.now)) c.args.claim c.args.f.now.items.items (tm c.args.right.now)
    c.loop-place.parts.items c.loop-place.bit c.loop-place.other c.loop-place.place c.loop-place.invariant (omega arith)
