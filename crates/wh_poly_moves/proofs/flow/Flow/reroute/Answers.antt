-- What goes back is wanted again, and goes from the other giver.
use Rattle.std.proofs.Common.{◌<◌, ◌≤◌, ◌≡◌, min, get_or, length, ap, sym, subst, ◌∙◌}
use Rattle.std.proofs.lemmas.List.{get_or_read}
use Rattle.wh_hopoly.specs.Erase.{transfers}
use Rattle.wh_poly_moves.specs.Flows.{HasGiven, IsRerouted, move_at}
use Rattle.wh_poly_moves.proofs.FlowSteps.{wanted_there, reroutes}
use Rattle.wh_poly_moves.proofs.Moves.{move_here}
use Rattle.wh_poly_moves.proofs.flow.Flow.reroute.Goals as goal

pub give-requires-clause-taker_here : goal.give-requires-clause-taker_here
give-requires-clause-taker_here c =
    let old = c.args.self.now in let x = c.index-item.result.now in
    subst (λ m. m.to < length c.take_back.new.self.want.items) (move_here old.moves.items c.args.place x c.requires.here c.index-item.ensures)
    (wanted_there old c.take_back.new.self c.args.place c.min-amount.result c.requires.flow c.requires.here c.take_back.ensures).0

pub give-requires-clause-wanted : goal.give-requires-clause-wanted
give-requires-clause-wanted c =
    let old = c.args.self.now in let x = c.index-item.result.now in
    subst (λ m. c.min-amount.result ≤ get_or c.take_back.new.self.want.items m.to 0) (move_here old.moves.items c.args.place x c.requires.here c.index-item.ensures)
    (wanted_there old c.take_back.new.self c.args.place c.min-amount.result c.requires.flow c.requires.here c.take_back.ensures).1

pub returns : goal.returns
returns c =
    let old = c.args.self.now in let x = c.index-item.result.now in
    let here = move_here old.moves.items c.args.place x c.requires.here c.index-item.ensures in
    let free = get_or_read old.free.items c.args.giver c.index.result.now c.requires.giver_here c.index.ensures 0 in
    let e : c.min-amount.result ≡ min (move_at (transfers old.moves.items) c.args.place).amount (get_or old.free.items c.args.giver 0) =
    c.min-amount.ensures ∙ ap (λ n. min x.amount n) free ∙ ap (λ m. min m.amount (get_or old.free.items c.args.giver 0)) (sym here) in
    let gave : HasGiven c.take_back.new.self c.args.giver (move_at (transfers old.moves.items) c.args.place).to c.min-amount.result c.give.new.self =
    subst (λ m. HasGiven c.take_back.new.self c.args.giver m.to c.min-amount.result c.give.new.self) (sym here) c.in_ok-give.ensures in
    subst (λ m. IsRerouted old c.args.place c.args.giver m.from c.give.new.self) here
    (reroutes old c.take_back.new.self c.give.new.self c.args.place c.args.giver c.min-amount.result c.requires.flow c.requires.here e c.take_back.ensures gave)
