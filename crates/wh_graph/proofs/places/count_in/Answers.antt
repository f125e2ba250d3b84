use Rattle.std.proofs.Common.{◌+◌, ℕ, List, Result, Err, get_or, sym, subst, refl, ap, ◌∙◌, arith}
use Rattle.std.proofs.Math.ListN.{set}
use Rattle.std.proofs.lemmas.Option.{slice_get_within, slice_get-get_or}
use Rattle.std.specs.List.Sorted.{IsBinarySearchResult}
use Rattle.std.specs.Ordering.{nat_cmp}
use Rattle.wh_graph.specs.Times.{AreAdded}
use Rattle.wh_graph.specs.declared.places.Times.{Times}
use Rattle.wh_graph.specs.declared.places.Times.TheVariants.{Never}
use Rattle.wh_pairs.proofs.ByPlace.{number_at}
use Rattle.wh_pairs.proofs.Increasing.{search_misses}
use Rattle.wh_graph.proofs.CountLemmas.{added_none, added_skip, added_more, search_place}
use Rattle.wh_graph.proofs.places.count_in.Goals as goal
use Rattle.wh_graph.proofs.places.count_in.Goals.{in-Ok, in-Err}

pub loop-number-init : goal.loop-number-init
loop-number-init c = (added_none c.args.set.now c.args.list.now c.args.times.now, c.told-times)

pub loop-number-preserved : goal.loop-number-preserved
loop-number-preserved c =
    let ns = c.args.set.now in
    let list = c.args.list.now in
    let old = c.args.times.now in
    let times = c.loop-number.times in
    let i = c.loop-number.number-index in
    let n = get_or list i 0 in
    let at = number_at list i c.loop-number-test.true in
    let searched = λ (r : Result ℕ ℕ). IsBinarySearchResult (λ m. nat_cmp m n) ns r in
    let added = λ (ts : List Times). AreAdded ns list (i + 1) old ts in
    let up = c.requires.increasing in (
      elim c.match-binary_search.branch [
        | in-Ok w ↦
            let place = w.in-Ok.place in
            let there = search_place ns n place up (subst searched w.in-Ok.is c.binary_search.ensures.position) in
            let within = slice_get_within ns place n there in
            let had = slice_get-get_or times place Never (omega (arith, within, c.requires.few, c.loop-number.invariant.1)) in
            subst added (sym (w.times-is ∙ ap (set times place) w.plus.ensures))
            (added_more ns list i n place (get_or times place Never) old times up c.loop-number.invariant.0 at there had)
        | in-Err w ↦
            let missing = search_misses ns n (Err w.in-Err.field-0) up (subst searched w.in-Err.is c.binary_search.ensures.position) refl in
            subst added (sym w.times-is) (added_skip ns list i n old times c.loop-number.invariant.0 at missing)
      ],
      c.match-binary_search.array_long,
    )
