use Rattle.std.proofs.Common.{length, arith}
use Rattle.wh_polycheck.proofs.AmountWalk.{not_covered_found, all_covered}
use Rattle.wh_polycheck.proofs.amounts.not_covered_from.Goals as goal

pub returns-then-least-width : goal.returns-then-least-width
returns-then-least-width c =
    not_covered_found c.args.items.now c.args.moves.now c.set_out-width.new.sums c.fill_up.new.sums c.args.base c.set_out-width.result c.first_wanting-least.result
    c.set_out-width.ensures.set c.set_out-width.ensures.within c.if-least-width.true (λ k h. c.fill_up.ensures k (let room = c.set_out-width.ensures.room in let same = c.set_out-width.auto.sums in omega (arith, h, room, same))) c.first_wanting-least.ensures.none
    (c.first_wanting-least.ensures.some c.if-least-width.true)

pub returns-else-least-width : goal.returns-else-least-width
returns-else-least-width c =
    all_covered c.args.items.now c.args.moves.now c.set_out-width.new.sums c.fill_up.new.sums (length c.args.sums.now) c.args.base c.set_out-width.result c.first_wanting-least.result
    c.set_out-width.ensures.set c.set_out-width.ensures.all c.if-least-width.false (λ k h. c.fill_up.ensures k (let room = c.set_out-width.ensures.room in let same = c.set_out-width.auto.sums in omega (arith, h, room, same))) c.first_wanting-least.ensures.none
