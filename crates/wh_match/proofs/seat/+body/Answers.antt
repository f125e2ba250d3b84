use Rattle.std.proofs.Common.{◌≡◌, ap, sym, ◌∙◌, arith, rules}
use Rattle.wh_terms.specs.Tree.{meta, app, lam}
use Rattle.wh_types.specs.Erase.{ty}
use Rattle.wh_terms.specs.Erase.{tm, tms}
use Rattle.wh_match.specs.MatchSearch.{placed}
use Rattle.wh_terms.proofs.TermLemmas.{weight_in_meta, weight_in_item, tm_meta, tm_of_meta}
use Rattle.wh_match.proofs.SeatLemmas.{no_lam, no_function, no_argument, no_meta, no_item, bodies_push}
use Rattle.wh_match.proofs.seat.+body.Goals as goal

pub body_of-bodies_of-requires : goal.body_of-bodies_of-requires
body_of-bodies_of-requires t c = (omega (arith, weight_in_meta c.args.term.now c.in-Meta.meta c.in-Meta.items c.in-Meta.is), c.requires)

pub bodies_of-body_of-requires : goal.bodies_of-body_of-requires
bodies_of-body_of-requires t c =
    (omega (arith, weight_in_item c.args.items.now c.as_slice-item-items.result.now c.loop-item.item-index c.item-item.result c.as_slice-item-items.ensures c.loop-item-test.true c.item-item.is), c.requires)

pub bodies_of-returns-in_default : goal.bodies_of-returns-in_default
bodies_of-returns-in_default t c =
    no_item c.args.seat.now.depth c.args.inner (tms c.args.seat.now.args.now) c.args.items.now c.as_slice-item-items.result.now c.loop-item.item-index c.item-item.result
    c.as_slice-item-items.ensures c.loop-item-test.true c.item-item.is (rw c.in_default.is at c.in_ok-body.ensures)

pub bodies_of-loop-item-preserved : goal.bodies_of-loop-item-preserved
bodies_of-loop-item-preserved t c =
    bodies_push (tms c.args.seat.now.args.now) c.args.seat.now.depth c.args.inner c.as_slice-item-items.result.now _ c.loop-item.item-index c.loop-item.bodies c.in-Some.body c.item-item.result
    c.loop-item.invariant (rw c.in_ok-push.was at c.push.ensures.ok) (rw c.in-Some.is at c.in_ok-body.ensures) c.loop-item-test.true c.item-item.is

pub body_of-returns-in_default : goal.body_of-returns-in_default
body_of-returns-in_default t c =
    let parts : tm c.args.term.now ≡ app (tm c.deref-in-App.result.now) (tm c.in-App.argument.value) = search rules in
    λ b e. no_function c.args.seat.now.depth c.args.inner (tms c.args.seat.now.args.now) _ _ c.requires (rw c.in_default.is at c.in_ok-first-in-App.ensures) b (e ∙ parts)

pub body_of-returns-in_default-2 : goal.body_of-returns-in_default-2
body_of-returns-in_default-2 t c =
    let parts : tm c.args.term.now ≡ app (tm c.in-App.function.value) (tm c.deref-in-App-2.result.now) = search rules in
    λ b e. no_argument c.args.seat.now.depth c.args.inner (tms c.args.seat.now.args.now) _ _ c.requires (rw c.in_default-2.is at c.in_ok-second-in-App.ensures) b (e ∙ parts)

pub body_of-returns-in-None-3 : goal.body_of-returns-in-None-3
body_of-returns-in-None-3 t c =
    let parts : tm c.args.term.now ≡ lam (ty c.in-Lam.kind) (tm c.deref.result.now) = search rules in
    λ b e. no_lam c.args.seat.now.depth c.args.inner c.in_ok-sum-in-Lam.field-0 (tms c.args.seat.now.args.now) _ _ c.requires c.in_ok-sum-in-Lam.ensures
    (rw c.in-None-3.is at c.in_ok-body-in-Lam.ensures) b (e ∙ parts)

pub body_of-returns-in-Some-2 : goal.body_of-returns-in-Some-2
body_of-returns-in-Some-2 t c =
    let there = rw c.in-Some-2.is at c.in_ok-bodies-in-Meta.ensures in
    ap (placed (tms c.args.seat.now.args.now) c.args.seat.now.depth c.args.inner) (tm_meta c.in-Meta.meta c.in-Some-2.bodies)
    ∙ ap (meta c.in-Meta.meta) there ∙ sym (tm_of_meta c.args.term.now c.in-Meta.meta c.in-Meta.items c.in-Meta.is)

pub body_of-returns-in-None-2 : goal.body_of-returns-in-None-2
body_of-returns-in-None-2 t c =
    no_meta c.args.seat.now.depth c.args.inner (tms c.args.seat.now.args.now) c.args.term.now c.in-Meta.meta c.in-Meta.items c.requires c.in-Meta.is
    (rw c.in-None-2.is at c.in_ok-bodies-in-Meta.ensures)
