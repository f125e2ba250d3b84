use Rattle.std.proofs.Common.{◌≡◌, ◌+◌, ◌<◌, ◌++◌, ℕ, List, [], ◌∷◌, Some, None, length, get_or, slice_get, sym, ap, subst, ◌∙◌, arith}
use Rattle.std.proofs.lemmas.Option.{slice_get-get_or}
use Rattle.wh_pairs.proofs.ByPlace.{number_at}
use Rattle.wh_graph.specs.Classes.{AreGathered, HasClass}
use Rattle.wh_graph.proofs.ComponentLemmas.{gathered_none, gathered_put, gathered_skip}
use Rattle.wh_graph.proofs.GraphLemmas.{row_at}
use Rattle.wh_graph.proofs.component.fill.Goals as goal
use Rattle.wh_graph.proofs.component.fill.Goals.{in-Some+in_ok-push, in_default}

pub loop-place-init : goal.loop-place-init
loop-place-init c = gathered_none c.args.set.now c.args.of.now c.args.lists.now c.requires.none

pub loop-place-preserved : goal.loop-place-preserved
loop-place-preserved c =
    let set = c.args.set.now in
    let of = c.args.of.now in
    let count = length c.args.lists.now in
    let i = c.loop-place.place in
    let lists = c.loop-place.lists in
    let within : i < length of = omega (arith, c.requires.size, c.loop-place-test.true) in
    let at = slice_get-get_or of i None within in
    let IsNext = λ (l : List (List ℕ)). AreGathered set of count (i + 1) l in
    elim c.match-of-place.branch [
      | in-Some+in_ok-push w ↦
          let class = w.in-Some.class in
          let old = w.index-lists-class.result in
          let has : HasClass of i class = at ∙ ap Some w.in-Some.is in
          let below : class < length lists = omega (arith, c.requires.below i class has, c.loop-place.invariant.size) in
          let there : slice_get lists class ≡ Some old = row_at lists class old below w.index-lists-class.is in
          subst IsNext (sym w.lists-is)
          (gathered_put set of count i (get_or set i 0) class lists old w.push.new.self c.requires.increasing c.loop-place.invariant
          (number_at set i c.loop-place-test.true) has there
          (w.in_ok-push.ensures.ok ∙ ap (λ (l : List ℕ). l ++ get_or set i 0 ∷ []) (sym w.index-lists-class.is)))
      | in_default w ↦ subst IsNext (sym w.lists-is) (gathered_skip set of count i lists c.loop-place.invariant (at ∙ ap Some w.in_default.is))
    ]
