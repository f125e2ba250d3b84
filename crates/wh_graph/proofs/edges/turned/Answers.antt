use Rattle.std.proofs.Common.{◌≡◌, ◌↔◌, ◌⊎◌, ◌+◌, ℕ, List, length, Contains, Some, slice_get, sym, ap, subst, ◌∙◌, arith}
use Rattle.wh_graph.specs.Graphs.{Edge}
use Rattle.wh_graph.proofs.PushLemmas.{lent_whole}
use Rattle.wh_graph.proofs.GraphLemmas.{AreTurnedTo, turned_none, turned_more, turned_all, row_at, empty_edges}
use Rattle.wh_graph.proofs.edges.turned.Goals as goal

pub loop-number-init : goal.loop-number-init
loop-number-init c = turned_none c.args.rows.now c.in_ok-back.back.items c.in_ok-back.ensures.size (empty_edges c.in_ok-back.back.items c.in_ok-back.ensures.none)

pub enter-requires : goal.enter-requires
enter-requires c =
    let rows = c.args.rows.now in
    let i = c.loop-number.number in
    let row = c.as_slice.result.now in
    let at : slice_get rows i ≡ Some row = row_at rows i c.index-rows-number.result c.loop-number-test.true c.index-rows-number.is ∙ ap Some (sym c.as_slice.ensures) in
    λ b found.
    let less = c.requires.within i b (row, at, found) in
    omega (arith, less, c.loop-number.invariant.size, ap (λ (l : List (List ℕ)). length l) c.deref_mut.ensures.value)

pub loop-number-preserved : goal.loop-number-preserved
loop-number-preserved c =
    let rows = c.args.rows.now in
    let i = c.loop-number.number in
    let back = c.loop-number.back.items in
    let new = c.enter.new.back in
    let row = c.as_slice.result.now in
    let at : slice_get rows i ≡ Some row = row_at rows i c.index-rows-number.result c.loop-number-test.true c.index-rows-number.is ∙ ap Some (sym c.as_slice.ensures) in
    let size = subst (λ (l : List (List ℕ)). length new ≡ length l) c.deref_mut.ensures.value c.in_ok-enter.ensures.size in
    let each = subst (λ (l : List (List ℕ)). (b a : ℕ) → Edge new b a ↔ (Edge l b a ⊎ ((a ≡ i) × Contains row b))) c.deref_mut.ensures.value c.in_ok-enter.ensures.each in
    let whole = lent_whole back new c.loop-number.back.len (omega (arith, c.loop-number.back.ok)) size in
    subst (λ (l : List (List ℕ)). AreTurnedTo rows (i + 1) l) (sym whole) (turned_more rows i row back new c.loop-number.invariant at size each)

pub returns : goal.returns
returns c = turned_all c.args.rows.now c.loop-number.number c.loop-number.back.items c.loop-number.invariant c.loop-number-test.false
