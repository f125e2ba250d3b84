use Rattle.std.proofs.Common.{◌+◌, ℕ, List, Result, Err, get_or, refl, sym, subst, ◌∙◌}
use Rattle.std.specs.List.Sorted.{IsBinarySearchResult}
use Rattle.std.specs.Ordering.{nat_cmp}
use Rattle.wh_pairs.proofs.Increasing.{search_misses}
use Rattle.wh_graph.proofs.CountLemmas.{search_place}
use Rattle.wh_pairs.proofs.ByPlace.{number_at}
use Rattle.wh_graph.proofs.GraphLemmas.{HasPlaces, places_none, places_push, places_skip, places_all}
use Rattle.wh_graph.proofs.component.row_at_places.Goals as goal
use Rattle.wh_graph.proofs.component.row_at_places.Goals.{in-Ok+in_ok-push-in-Ok, in-Err}

pub loop-number-init : goal.loop-number-init
loop-number-init c = subst (λ (l : List ℕ). HasPlaces c.args.set.now c.args.row.now 0 l) (sym c.new-placed.ensures) (places_none c.args.set.now c.args.row.now)

pub loop-number-preserved : goal.loop-number-preserved
loop-number-preserved c =
    let set = c.args.set.now in
    let row = c.args.row.now in
    let i = c.loop-number.number-index in
    let n = get_or row i 0 in
    let at = number_at row i c.loop-number-test.true in
    let placed = c.loop-number.placed in
    let up = c.requires.increasing in
    let searched = λ (r : Result ℕ ℕ). IsBinarySearchResult (λ m. nat_cmp m n) set r in
    let IsNext = λ (l : List ℕ). HasPlaces set row (i + 1) l in
    elim c.match-binary_search.branch [
      | in-Ok+in_ok-push-in-Ok w ↦
          let place = w.in-Ok.place in
          let there = search_place set n place up (subst searched w.in-Ok.is c.binary_search.ensures.position) in
          subst IsNext (sym (w.placed-is ∙ w.in_ok-push-in-Ok.ensures.ok)) (places_push set row i n place placed up c.loop-number.invariant at there)
      | in-Err w ↦
          let missing = search_misses set n (Err w.in-Err.field-0) up (subst searched w.in-Err.is c.binary_search.ensures.position) refl in
          subst IsNext (sym w.placed-is) (places_skip set row i n placed c.loop-number.invariant at missing)
    ]

pub returns : goal.returns
returns c = places_all c.args.set.now c.args.row.now c.loop-number.number-index c.loop-number.placed c.loop-number.invariant c.loop-number-test.false
