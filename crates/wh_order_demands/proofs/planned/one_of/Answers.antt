use Rattle.std.proofs.Common.{arith}
use Rattle.wh_order_demands.proofs.PlannedLemmas.{bits_none, bits_more, bits_all}
use Rattle.wh_order_demands.proofs.planned.one_of.Goals as goal

pub loop-place-init : goal.loop-place-init
loop-place-init c = bits_none c.args.first

pub loop-place-preserved : goal.loop-place-preserved
loop-place-preserved c =
    bits_more c.args.first c.loop-place.place c.in_ok-bit.bit c.loop-place.found c.in_ok-found.found c.in_ok-bit.ensures c.in_ok-found.ensures c.loop-place.invariant

pub returns : goal.returns
returns c = bits_all c.args.first c.loop-place.place c.args.count c.loop-place.found (omega arith) c.loop-place.invariant
