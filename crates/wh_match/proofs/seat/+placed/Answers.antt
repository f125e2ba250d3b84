use Rattle.std.proofs.Common.{ap, sym, ◌∙◌, arith, rules}
use Rattle.wh_terms.specs.Tree.{Tms}
use Rattle.wh_terms.specs.Erase.{tms}
use Rattle.wh_match.specs.MatchSearch.{all_placed}
use Rattle.wh_terms.proofs.TermLemmas.{weight_in_meta, weight_in_item, tm_of_meta}
use Rattle.wh_match.proofs.SeatLemmas.{placed_length, placed_at, placed_next, placed_meta, bound_there}
use Rattle.wh_match.proofs.seat.+placed.Goals as goal

pub is_placed-are_placed-requires : goal.is_placed-are_placed-requires
is_placed-are_placed-requires t c =
    (omega (arith, weight_in_meta c.args.body.now c.in-Meta-Meta.meta c.in-Meta-Meta.items c.in-Meta-Meta.is-0), c.requires)

pub is_placed-returns-in_ok-are_placed-in-Meta-Meta : goal.is_placed-returns-in_ok-are_placed-in-Meta-Meta
is_placed-returns-in_ok-are_placed-in-Meta-Meta t c =
    let left = placed_meta (tms c.args.seat.now.args.now) c.args.seat.now.depth c.args.inner c.args.body.now c.in-Meta-Meta.meta c.in-Meta-Meta.items c.in-Meta-Meta.is-0 in
    let right = tm_of_meta c.args.term.now c.in-Meta-Meta.other c.in-Meta-Meta.others c.in-Meta-Meta.is-1 in
    (λ yes. let here = c.in_ok-are_placed-in-Meta-Meta.ensures.0 yes in cc, λ e. c.in_ok-are_placed-in-Meta-Meta.ensures.1 cc)

pub are_placed-is_placed-requires : goal.are_placed-is_placed-requires
are_placed-is_placed-requires t c =
    (omega (arith, weight_in_item c.args.bodies.now c.as_slice-items.result.now c.loop-i.i c.index-items-i.result c.as_slice-items.ensures c.loop-i-test.true c.index-items-i.is), c.requires)

pub are_placed-returns-then-items-others : goal.are_placed-returns-then-items-others
are_placed-returns-then-items-others t c = (
  λ no_way. cc,
  λ e. absurd (c.if-items-others.true (placed_length (tms c.args.seat.now.args.now) c.args.seat.now.depth c.args.inner c.as_slice-items.result.now c.as_slice-others.result.now
      (ap (λ xs. all_placed (tms c.args.seat.now.args.now) c.args.seat.now.depth c.args.inner (tms xs)) c.as_slice-items.ensures ∙ e ∙ sym (ap tms c.as_slice-others.ensures)))),
)

pub are_placed-returns-then-not-branch : goal.are_placed-returns-then-not-branch
are_placed-returns-then-not-branch t c =
    let args : Tms = tms c.args.seat.now.args.now in (
      λ no_way. cc,
      λ e.
          let there = placed_at args c.args.seat.now.depth c.args.inner c.as_slice-items.result.now c.as_slice-others.result.now c.loop-i.i c.index-items-i.result c.index-others-i.result
          (ap (λ xs. all_placed args c.args.seat.now.depth c.args.inner (tms xs)) c.as_slice-items.ensures ∙ e ∙ sym (ap tms c.as_slice-others.ensures))
          c.loop-i-test.true c.index-items-i.is c.index-others-i.is in
          let yes = c.in_ok-is_placed.ensures.1 there in
          search rules,
    )

pub are_placed-loop-i-preserved : goal.are_placed-loop-i-preserved
are_placed-loop-i-preserved t c =
    placed_next (tms c.args.seat.now.args.now) c.args.seat.now.depth c.args.inner c.as_slice-items.result.now c.as_slice-others.result.now c.loop-i.i c.index-items-i.result
    c.index-others-i.result c.loop-i.invariant c.loop-i-test.true c.if-items-others.false c.index-items-i.is c.index-others-i.is (c.in_ok-is_placed.ensures.0 (search rules))

pub is_placed-returns-in_default : goal.is_placed-returns-in_default
is_placed-returns-in_default t c = (
  λ no_way. cc,
  λ e.
      let (m, is) = bound_there c.args.seat.now.depth c.args.inner c.in_default.field-0-0 (tms c.args.seat.now.args.now) c.args.body.now c.args.term.now c.requires c.in_default.is-0 e in
      absurd (c.in_default.not-Bound-1 m is),
)
