-- A move that was passed is not between the two, since one of its ends is another.
use Rattle.std.proofs.Common.{◌≡◌, arith, ap, sym, subst, ◌∙◌}
use Rattle.std.proofs.lemmas.List.{take_all}
use Rattle.std.proofs.lemmas.List.Elements.{All-more}
use Rattle.wh_hopoly.specs.Erase.{transfers}
use Rattle.wh_poly_moves.specs.Flows.{NoneBetween}
use Rattle.wh_poly_moves.proofs.Moves.{move_read, transfers_long}
use Rattle.wh_poly_moves.proofs.flow.place_of.Goals as goal
use Rattle.wh_poly_moves.proofs.flow.place_of.Goals.{else-item-giver-via-then-item-giver+else-item-taker, else-item-giver-via-else-item-giver}

pub loop-place-preserved : goal.loop-place-preserved
loop-place-preserved c =
    let read = move_read c.args.moves.now c.loop-place.place in
    All-more (λ m. m.from ≡ c.args.giver → m.to ≡ c.args.taker → ⊥) (transfers c.args.moves.now) c.loop-place.place (record { from = 0; to = 0; amount = 0 })
    (let l = transfers_long c.args.moves.now in omega (arith, l, c.loop-place-test.true)) c.loop-place.invariant
    (elim c.else-item-giver.branch [
      | else-item-giver-via-then-item-giver+else-item-taker w ↦ λ _ to. w.if-item-taker.false (sym (ap (λ m. m.to) read) ∙ to)
      | else-item-giver-via-else-item-giver w ↦ λ from _. w.if-item-giver.false (sym (ap (λ m. m.from) read) ∙ from)
    ])

pub returns : goal.returns
returns c = let l = transfers_long c.args.moves.now in
    subst (NoneBetween c.args.giver c.args.taker) (take_all c.loop-place.place (transfers c.args.moves.now) (omega (arith, l, c.loop-place-test.false))) c.loop-place.invariant
