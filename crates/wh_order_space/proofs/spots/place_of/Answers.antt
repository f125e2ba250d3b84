use Rattle.std.proofs.Common.{get_or, refl, arith}
use Rattle.wh_order_space.proofs.SpotLemmas.{place_told}
use Rattle.wh_order_space.proofs.spots.place_of.Goals as goal

pub returns-then-marked-place : goal.returns-then-marked-place
returns-then-marked-place c =
    place_told c.args.marked.now c.args.symbol c.loop-place.place (get_or c.args.marked.now c.loop-place.place 0) (omega arith) refl c.if-marked-place.true
