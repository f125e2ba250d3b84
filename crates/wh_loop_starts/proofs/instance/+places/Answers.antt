-- From the instances at the children to those below the whole.
use Rattle.std.proofs.Common.{◌++◌, [], ◌∷◌, Some, ap, sym, subst, ◌∙◌, arith}
use Rattle.wh_types.specs.Erase.{ty}
use Rattle.wh_terms.specs.Erase.{tm, symbols}
use Rattle.wh_terms.specs.Places.{child, part_at}
use Rattle.wh_terms.proofs.PassedLemmas.{childless}
use Rattle.wh_terms.proofs.TermLemmas.{weight}
use Rattle.wh_loop_starts.specs.Found.{IsInstanceIn}
use Rattle.wh_loop_starts.specs.Meets.{HasNoneAt, HasNoneBelow, HasNoneFrom}
use Rattle.wh_loop_starts.proofs.PlaceLemmas.{part_next, none_from, none_below_leaf, none_below_lam, none_below_app}
use Rattle.wh_loop_starts.proofs.Outcomes.{answer_more, no_answer}
use Rattle.wh_loop_starts.proofs.instance.+places.Goals as goal

pub instance_below-instance_in-requires : goal.instance_below-instance_in-requires
instance_below-instance_in-requires t c =
    let u = tm c.args.search.now.term.now in
    let whole = ap tm c.in-Lam.is in
    let part = ap (child 0) whole ∙ ap Some (sym (ap tm c.deref.ensures)) in (
      omega (arith, ap weight whole, ap weight (ap tm c.deref.ensures)),
      (c.requires.ready, (c.requires.searchable, part_next c.args.steps.now.items 0 u (tm c.args.here.now) (tm c.deref.result.now) c.requires.here part)),
    )

pub instance_below-instance_in-requires-in-App : goal.instance_below-instance_in-requires-in-App
instance_below-instance_in-requires-in-App t c =
    let u = tm c.args.search.now.term.now in
    let whole = ap tm c.in-App.is in
    let part = ap (child 0) whole ∙ ap Some (sym (ap tm c.deref-in-App.ensures)) in (
      omega (arith, ap weight whole, ap weight (ap tm c.deref-in-App.ensures)),
      (c.requires.ready, (c.requires.searchable, part_next c.args.steps.now.items 0 u (tm c.args.here.now) (tm c.deref-in-App.result.now) c.requires.here part)),
    )

pub instance_below-instance_in-requires-in-None : goal.instance_below-instance_in-requires-in-None
instance_below-instance_in-requires-in-None t c =
    let u = tm c.args.search.now.term.now in
    let whole = ap tm c.in-App.is in
    let part = ap (child 1) whole ∙ ap Some (sym (ap tm c.deref-in-None.ensures)) in (
      omega (arith, ap weight whole, ap weight (ap tm c.deref-in-None.ensures)),
      (c.requires.ready, (c.requires.searchable, ap (λ l. part_at (l ++ 1 ∷ []) u) c.in_ok-found-in-App.ensures.kept ∙ part_next c.args.steps.now.items 1 u (tm c.args.here.now) (tm c.deref-in-None.result.now) c.requires.here part)),
    )

pub instance_below-returns-in-Lam-clause-found : goal.instance_below-returns-in-Lam-clause-found
instance_below-returns-in-Lam-clause-found t c =
    let S = symbols c.args.search.now.signature.now in
    let s = tm c.args.search.now.start.now in
    let u = tm c.args.search.now.term.now in
    let at = c.args.steps.now.items in
    answer_more c.instance_in.result (HasNoneFrom S s u (at ++ 0 ∷ [])) (HasNoneBelow S s u at) (IsInstanceIn S s u) (IsInstanceIn S s u) c.instance_in.ensures.found
    (none_below_lam S s u (tm c.args.here.now) (ty c.in-Lam.field-0) (tm c.in-Lam.body.value) at c.requires.here (ap tm c.in-Lam.is)) (λ i h. h)

pub instance_below-returns-in-None-clause-found : goal.instance_below-returns-in-None-clause-found
instance_below-returns-in-None-clause-found t c =
    let S = symbols c.args.search.now.signature.now in
    let s = tm c.args.search.now.start.now in
    let u = tm c.args.search.now.term.now in
    let at = c.args.steps.now.items in
    let moved = c.instance_in-in-App.new.steps.items in
    let left = no_answer c.in_ok-found-in-App.field-0 (HasNoneFrom S s u (at ++ 0 ∷ [])) (IsInstanceIn S s u) c.in-None.is c.in_ok-found-in-App.ensures.found in
    answer_more c.instance_in-in-None.result (HasNoneFrom S s u (moved ++ 1 ∷ [])) (HasNoneBelow S s u at) (IsInstanceIn S s u) (IsInstanceIn S s u) c.instance_in-in-None.ensures.found
    (λ right. none_below_app S s u (tm c.args.here.now) (tm c.in-App.function.value) (tm c.in-App.argument.value) at c.requires.here (ap tm c.in-App.is) left
    (subst (λ l. HasNoneFrom S s u (l ++ 1 ∷ [])) c.in_ok-found-in-App.ensures.kept right)) (λ i h. h)

pub instance_below-returns-in-Bound-clause-found : goal.instance_below-returns-in-Bound-clause-found
instance_below-returns-in-Bound-clause-found t c =
    none_below_leaf (symbols c.args.search.now.signature.now) (tm c.args.search.now.start.now) (tm c.args.search.now.term.now) (tm c.args.here.now) c.args.steps.now.items c.requires.here (childless c.args.here.now c.in-Bound.is)

pub instance_from-returns-in-None-clause-found : goal.instance_from-returns-in-None-clause-found
instance_from-returns-in-None-clause-found t c =
    let S = symbols c.args.search.now.signature.now in
    let s = tm c.args.search.now.start.now in
    let u = tm c.args.search.now.term.now in
    let at = c.args.steps.now.items in
    let none = no_answer c.in_ok-found.field-0 (HasNoneAt S s u c.deref.result.now) (IsInstanceIn S s u) c.in-None.is c.in_ok-found.ensures in
    answer_more c.instance_below.result (HasNoneBelow S s u at) (HasNoneFrom S s u at) (IsInstanceIn S s u) (IsInstanceIn S s u) c.instance_below.ensures.found
    (none_from S s u at (subst (HasNoneAt S s u) c.deref.ensures.value none)) (λ i h. h)
