-- The move between the two has room for more, and its place has more afterwards.
use Rattle.std.proofs.Common.{◌<◌, ◌+◌, length, arith, ap, sym, subst, ◌∙◌}
use Rattle.wh_hopoly.specs.Erase.{transfers}
use Rattle.wh_poly_moves.specs.Flows.{IsBetween}
use Rattle.wh_poly_moves.proofs.FlowSteps.{room_for_move, gives_more}
use Rattle.wh_poly_moves.proofs.Moves.{move_here, transfers_set, transfers_long}
use Rattle.wh_poly_moves.proofs.flow.Flow.give.Goals as goal

pub overflow_add-index_mut : goal.overflow_add-index_mut
overflow_add-index_mut c =
    let old = c.args.self.now in
    let between : IsBetween c.args.giver c.args.taker (transfers old.moves.items) c.in-Some.place = subst (λ xs. IsBetween c.args.giver c.args.taker (transfers xs) c.in-Some.place) c.as_slice.ensures.value c.in-Some.ensures in
    let long = transfers_long old.moves.items in
    let here : c.in-Some.place < length old.moves.items = let h = between.here in omega (arith, h, long) in
    let read = ap (λ m. m.amount) (move_here old.moves.items c.in-Some.place c.index_mut.result.now here c.index_mut.ensures.value) in
    let room = room_for_move old c.in-Some.place c.args.giver c.args.amount c.requires.flow between.here between.from c.requires.free in
    omega (arith, read, room)

pub returns-in-Some : goal.returns-in-Some
returns-in-Some c =
    let old = c.args.self.now in
    let between : IsBetween c.args.giver c.args.taker (transfers old.moves.items) c.in-Some.place = subst (λ xs. IsBetween c.args.giver c.args.taker (transfers xs) c.in-Some.place) c.as_slice.ensures.value c.in-Some.ensures in
    let long = transfers_long old.moves.items in
    let here : c.in-Some.place < length old.moves.items = let h = between.here in omega (arith, h, long) in
    let x = c.index_mut.result.now in
    gives_more old c.spend.new.self c.in-Some.place c.args.giver c.args.taker c.args.amount
    c.requires.giver_here c.requires.taker_here c.requires.free c.requires.wanted between c.spend.ensures.free c.spend.ensures.want
    (x.amount + c.args.amount)
    (ap (λ m. m.amount + c.args.amount) (sym (move_here old.moves.items c.in-Some.place x here c.index_mut.ensures.value)))
    (ap transfers c.spend.ensures.moves ∙ transfers_set old.moves.items c.in-Some.place x (x.amount + c.args.amount) here c.index_mut.ensures.value)
