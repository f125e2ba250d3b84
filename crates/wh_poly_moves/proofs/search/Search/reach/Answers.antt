-- The move of the iteration is the one at its place in the flow.
use Rattle.std.proofs.Common.{◌<◌, ◌≤◌, ◌+◌, length, arith, ap, sym, subst, ◌∙◌}
use Rattle.wh_hopoly.specs.Erase.{transfers}
use Rattle.wh_poly_moves.specs.Flows.{move_at}
use Rattle.wh_poly_moves.specs.Paths.{ReachesBy}
use Rattle.wh_poly_moves.proofs.Moves.{move_read, transfers_long}
use Rattle.wh_poly_moves.proofs.ReachWalk.{ReachWalk, giver_listed, taker_listed, walk_starts, walk_reaches, walk_passes, reached_all}
use Rattle.wh_poly_moves.proofs.search.Search.reach.Goals as goal
use Rattle.wh_poly_moves.proofs.search.Search.reach.Goals.{then-item-gt0+in_ok-reach_by, else-item-gt0}

pub loop-place-init : goal.loop-place-init
loop-place-init c = walk_starts c.args.flow.now c.args.self.now

pub reach_by-requires-clause-giver : goal.reach_by-requires-clause-giver
reach_by-requires-clause-giver c =
    let value = c.deref-item-items.ensures.value in
    let read = ap (λ xs. move_at (transfers xs) c.loop-place.place) (sym value) ∙ move_read c.deref-item-items.result.now c.loop-place.place in
    let here : c.loop-place.place < length (transfers c.args.flow.now.moves.items) = let l = transfers_long c.args.flow.now.moves.items in let k = ap length value in omega (arith, l, k, c.loop-place-test.true) in
    subst (λ m. m.from < length c.loop-place.self.givers.items) read
    (giver_listed c.requires.0 c.requires.1 c.args.flow.now c.loop-place.self c.loop-place.place c.requires.2 (c.loop-place.invariant.search c.requires.0 c.requires.1 c.requires.2 c.requires.3) here)

pub reach_by-requires-clause-taker : goal.reach_by-requires-clause-taker
reach_by-requires-clause-taker c =
    let value = c.deref-item-items.ensures.value in
    let read = ap (λ xs. move_at (transfers xs) c.loop-place.place) (sym value) ∙ move_read c.deref-item-items.result.now c.loop-place.place in
    let here : c.loop-place.place < length (transfers c.args.flow.now.moves.items) = let l = transfers_long c.args.flow.now.moves.items in let k = ap length value in omega (arith, l, k, c.loop-place-test.true) in
    subst (λ m. m.to < length c.loop-place.self.reached.items) read
    (taker_listed c.requires.0 c.requires.1 c.args.flow.now c.loop-place.self c.loop-place.place c.requires.2 (c.loop-place.invariant.search c.requires.0 c.requires.1 c.requires.2 c.requires.3) here)

pub loop-place-preserved : goal.loop-place-preserved
loop-place-preserved c =
    let value = c.deref-item-items.ensures.value in
    let read = ap (λ xs. move_at (transfers xs) c.loop-place.place) (sym value) ∙ move_read c.deref-item-items.result.now c.loop-place.place in
    let here : c.loop-place.place < length (transfers c.args.flow.now.moves.items) = let l = transfers_long c.args.flow.now.moves.items in let k = ap length value in omega (arith, l, k, c.loop-place-test.true) in
    elim c.if-item-gt0.branch [
      | then-item-gt0+in_ok-reach_by w ↦
          subst (λ s. ReachWalk c.args.flow.now c.args.self.now s (c.loop-place.place + 1)) (sym w.self-is)
          (walk_reaches c.args.flow.now c.args.self.now c.loop-place.self w.reach_by.new.self c.loop-place.place c.requires here
          (subst (λ m. 0 < m.amount) (sym read) w.if-item-gt0.true) c.loop-place.invariant
          (subst (λ m. ReachesBy c.loop-place.place m c.loop-place.self w.reach_by.new.self) (sym read) w.in_ok-reach_by.ensures))
      | else-item-gt0 w ↦
          subst (λ s. ReachWalk c.args.flow.now c.args.self.now s (c.loop-place.place + 1)) (sym w.self-is)
          (walk_passes c.args.flow.now c.args.self.now c.loop-place.self c.loop-place.place (subst (λ m. m.amount ≤ 0) (sym read) w.if-item-gt0.false) c.loop-place.invariant)
    ]

pub returns : goal.returns
returns c = record {
  search = c.loop-place.invariant.search;
  reached = reached_all c.args.flow.now c.loop-place.self c.loop-place.place c.loop-place.invariant.reached
      (let value = c.deref-item-items.ensures.value in let l = transfers_long c.args.flow.now.moves.items in let k = ap length value in omega (arith, l, k, c.loop-place-test.false));
  stepped = c.loop-place.invariant.stepped;
}
