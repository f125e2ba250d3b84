use Rattle.std.proofs.Common.{◌≡◌, ◌+◌, ◌<◌, ℕ, List, length, get_or, Some, slice_get, sym, ap, subst, ◌∙◌, arith}
use Rattle.std.proofs.lemmas.List.Elements.{All-get_or}
use Rattle.wh_pairs.proofs.ByPlace.{number_at}
use Rattle.wh_graph.specs.Graphs.{AtPlaces, Edge}
use Rattle.wh_graph.proofs.GraphLemmas.{AreListsTo, lists_none, lists_push, lists_all, row_at, row_at_place, at_places_within}
use Rattle.wh_graph.proofs.component.at_places.Goals as goal

pub loop-number-init : goal.loop-number-init
loop-number-init c =
    let E = AtPlaces (Edge c.args.rows.now) c.args.set.now in
    subst (λ (rows : List (List ℕ)). AreListsTo E 0 rows) (sym c.new-placed.ensures.items) (lists_none E)

pub loop-number-preserved : goal.loop-number-preserved
loop-number-preserved c =
    let rows = c.args.rows.now in
    let set = c.args.set.now in
    let E = AtPlaces (Edge rows) set in
    let i = c.loop-number.number-index in
    let n = get_or set i 0 in
    let row = c.as_slice.result.now in
    let placed = c.in_ok-row_at_places.field-0 in
    let within : n < length rows = All-get_or (λ m. m < length rows) set i 0 c.loop-number-test.true c.requires.set in
    let at : slice_get rows n ≡ Some row = row_at rows n c.index-rows-number.result within c.index-rows-number.is ∙ ap Some (sym c.as_slice.ensures) in
    subst (λ (l : List (List ℕ)). AreListsTo E (i + 1) l) (sym {A = List (List ℕ)} c.in_ok-push.ensures.items)
    (lists_push E i c.loop-number.placed.items placed c.loop-number.invariant (row_at_place rows set i n row placed (number_at set i c.loop-number-test.true) at c.in_ok-row_at_places.ensures))

pub returns : goal.returns
returns c =
    let rows = c.args.rows.now in
    let set = c.args.set.now in
    let i = c.loop-number.number-index in
    let whole : i ≡ length set = omega (arith, c.loop-number.auto.number-index-end, c.loop-number-test.false) in
    lists_all (AtPlaces (Edge rows) set) (length set) i c.loop-number.placed.items c.loop-number.invariant whole (λ u v e. (at_places_within (Edge rows) set u v e).0)
