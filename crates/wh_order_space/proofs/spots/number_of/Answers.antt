use Rattle.std.proofs.Common.{◌+◌, ◌<◌, ◌^◌}
use Rattle.wh_order_space.proofs.SpotLemmas.{own_number, mark_number, added}
use Rattle.wh_order_space.proofs.spots.number_of.Goals as goal

pub returns-then-symbol-symbols : goal.returns-then-symbol-symbols
returns-then-symbol-symbols c = own_number c.args.symbols c.args.marked.now c.args.symbol c.if-symbol-symbols.true

pub returns-in_ok-place : goal.returns-in_ok-place
returns-in_ok-place c =
    let place = c.in_ok-place.place in
    let sum = c.args.symbols + place in
    mark_number c.args.symbols c.args.marked.now c.args.symbol place c.checked_add.result c.if-symbol-symbols.false (c.place_of.ensures place c.in_ok-place.was)
    (added c.checked_add.result (sum < 2 ^ 64) sum c.checked_add.ensures)
