use Rattle.std.proofs.Common.{◌+◌, [], ◌∷◌, ◌++◌, refl, sym, ap, ◌∙◌}
use Rattle.std.proofs.lemmas.List.FromFn.{map-range_with_len_more}
use Rattle.wh_find_subterm.specs.Clauses.{yes}
use Rattle.wh_find_subterm.proofs.clauses.some_of.Goals as goal

pub loop-place-preserved : goal.loop-place-preserved
loop-place-preserved c =
    let first = c.args.first in
    let place = c.loop-place.place in
    c.in_ok-push.ensures.ok ∙ ap (λ xs. xs ++ yes (first + place) ∷ []) c.loop-place.invariant ∙ sym (map-range_with_len_more yes first place (first + place) refl)
