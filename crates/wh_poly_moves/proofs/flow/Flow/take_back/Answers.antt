-- The move that was read is the one at its place, and what it has fits beside what is free and what is wanted.
use Rattle.std.proofs.Common.{◌<◌, ◌≡◌, ◌+◌, ◌-◌, ◌^◌, get_or, set, length, arith, ap, sym, subst}
use Rattle.std.proofs.lemmas.List.{get_or_read}
use Rattle.wh_poly_moves.proofs.FlowSteps.{giver_here, taker_here, room_for_free, room_for_want, takes_back}
use Rattle.wh_poly_moves.proofs.Moves.{move_here, transfers_set}
use Rattle.wh_poly_moves.proofs.flow.Flow.take_back.Goals as goal

pub index_mut-requires : goal.index_mut-requires
index_mut-requires c =
    let here = move_here c.args.self.now.moves.items c.args.place c.index_mut-item.result.now c.requires.here c.index_mut-item.ensures.value in
    let from : c.index_mut-item.result.now.from < length c.args.self.now.free.items = subst (λ m. m.from < length c.args.self.now.free.items) here (giver_here c.args.self.now c.args.place c.requires.flow c.requires.here) in
    omega (arith, from, c.args.self.now.free.ok.0)

pub overflow_add-index_mut : goal.overflow_add-index_mut
overflow_add-index_mut c =
    let here = move_here c.args.self.now.moves.items c.args.place c.index_mut-item.result.now c.requires.here c.index_mut-item.ensures.value in
    let from : c.index_mut-item.result.now.from < length c.args.self.now.free.items = subst (λ m. m.from < length c.args.self.now.free.items) here (giver_here c.args.self.now c.args.place c.requires.flow c.requires.here) in
    let e = get_or_read c.args.self.now.free.items c.index_mut-item.result.now.from c.index_mut.result.now from c.index_mut.ensures.value 0 in
    let room : get_or c.args.self.now.free.items c.index_mut-item.result.now.from 0 + c.args.amount < 2 ^ 128 = subst (λ m. get_or c.args.self.now.free.items m.from 0 + c.args.amount < 2 ^ 128) here
    (room_for_free c.args.self.now c.args.place c.args.amount c.requires.flow c.requires.here c.requires.enough) in
    omega (arith, e, room)

pub index_mut-requires-2 : goal.index_mut-requires-2
index_mut-requires-2 c =
    let here = move_here c.args.self.now.moves.items c.args.place c.index_mut-item.result.now c.requires.here c.index_mut-item.ensures.value in
    let to : c.index_mut-item.result.now.to < length c.args.self.now.want.items = subst (λ m. m.to < length c.args.self.now.want.items) here (taker_here c.args.self.now c.args.place c.requires.flow c.requires.here) in
    omega (arith, to, c.args.self.now.want.ok.0)

pub overflow_add-index_mut-2 : goal.overflow_add-index_mut-2
overflow_add-index_mut-2 c =
    let here = move_here c.args.self.now.moves.items c.args.place c.index_mut-item.result.now c.requires.here c.index_mut-item.ensures.value in
    let to : c.index_mut-item.result.now.to < length c.args.self.now.want.items = subst (λ m. m.to < length c.args.self.now.want.items) here (taker_here c.args.self.now c.args.place c.requires.flow c.requires.here) in
    let e = get_or_read c.args.self.now.want.items c.index_mut-item.result.now.to c.index_mut-2.result.now to c.index_mut-2.ensures.value 0 in
    let room : get_or c.args.self.now.want.items c.index_mut-item.result.now.to 0 + c.args.amount < 2 ^ 128 = subst (λ m. get_or c.args.self.now.want.items m.to 0 + c.args.amount < 2 ^ 128) here
    (room_for_want c.args.self.now c.args.place c.args.amount c.requires.flow c.requires.here c.requires.enough) in
    omega (arith, e, room)

pub returns : goal.returns
returns c =
    let here = move_here c.args.self.now.moves.items c.args.place c.index_mut-item.result.now c.requires.here c.index_mut-item.ensures.value in
    let x = c.index_mut-item.result.now in
    let old = c.args.self.now in
    let from : x.from < length old.free.items = subst (λ m. m.from < length old.free.items) here (giver_here old c.args.place c.requires.flow c.requires.here) in
    let to : x.to < length old.want.items = subst (λ m. m.to < length old.want.items) here (taker_here old c.args.place c.requires.flow c.requires.here) in
    let ef = get_or_read old.free.items x.from c.index_mut.result.now from c.index_mut.ensures.value 0 in
    let ew = get_or_read old.want.items x.to c.index_mut-2.result.now to c.index_mut-2.ensures.value 0 in
    takes_back old _ c.args.place c.args.amount c.requires.flow c.requires.here c.requires.enough
    (subst (λ m. set old.free.items x.from (c.index_mut.result.now + c.args.amount) ≡ set old.free.items m.from (get_or old.free.items m.from 0 + c.args.amount)) (sym here)
    (ap (λ n. set old.free.items x.from (n + c.args.amount)) ef))
    (subst (λ m. set old.want.items x.to (c.index_mut-2.result.now + c.args.amount) ≡ set old.want.items m.to (get_or old.want.items m.to 0 + c.args.amount)) (sym here)
    (ap (λ n. set old.want.items x.to (n + c.args.amount)) ew))
    (x.amount - c.args.amount)
    (ap (λ m. m.amount - c.args.amount) (sym here))
    (transfers_set old.moves.items c.args.place x (x.amount - c.args.amount) c.requires.here c.index_mut-item.ensures.value)
