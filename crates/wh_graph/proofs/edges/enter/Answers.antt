use Rattle.std.proofs.Common.{◌≡◌, inl, inr, ◌<◌, ℕ, List, [], ◌∷◌, ◌++◌, length, get_or, Some, slice_get, sym, ap, ◌∙◌, arith}
use Rattle.wh_pairs.proofs.ByPlace.{number_at, contains_number}
use Rattle.wh_graph.proofs.GraphLemmas.{entered_none, entered_more, row_at}
use Rattle.wh_pairs.proofs.PlacesBefore.{before_all}
use Rattle.wh_graph.proofs.edges.enter.Goals as goal

pub loop-target-init : goal.loop-target-init
loop-target-init c = entered_none c.args.back.now c.args.row.now c.args.number

pub bounds-back-target : goal.bounds-back-target
bounds-back-target c =
    let row = c.args.row.now in
    let i = c.loop-target.target-index in
    let less = c.requires (get_or row i 0) (contains_number row i c.loop-target-test.true) in
    omega (arith, less, c.loop-target.invariant.size)

pub loop-target-preserved : goal.loop-target-preserved
loop-target-preserved c =
    let row = c.args.row.now in
    let i = c.loop-target.target-index in
    let back = c.loop-target.back in
    let t = get_or row i 0 in
    let before = c.index-back-target.result in
    let less = c.requires t (contains_number row i c.loop-target-test.true) in
    let within : t < length back = omega (arith, less, c.loop-target.invariant.size) in
    let there : slice_get back t ≡ Some before = row_at back t before within c.index-back-target.is in
    entered_more c.args.back.now row c.args.number i t back before c.push.new.self c.loop-target.invariant (number_at row i c.loop-target-test.true) there
    (c.in_ok-push.ensures.ok ∙ ap (λ (l : List ℕ). l ++ c.args.number ∷ []) (sym c.index-back-target.is))

pub returns-clause-size : goal.returns-clause-size
returns-clause-size c = c.loop-target.invariant.size

pub returns-clause-each : goal.returns-clause-each
returns-clause-each c =
    let row = c.args.row.now in
    λ b a. (
      λ edge. elim ((c.loop-target.invariant.each b a).0 edge) [
        | inl old ↦ inl old
        | inr (same, stands) ↦ inr (same, (before_all row c.loop-target.target-index c.loop-target-test.false b).0 stands)
      ],
      λ either. (c.loop-target.invariant.each b a).1 (elim either [
        | inl old ↦ inl old
        | inr (same, found) ↦ inr (same, (before_all row c.loop-target.target-index c.loop-target-test.false b).1 found)
      ]),
    )
