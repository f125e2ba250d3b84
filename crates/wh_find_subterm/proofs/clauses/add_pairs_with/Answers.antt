use Rattle.std.proofs.Common.{◌+◌, [], ◌∷◌, ◌++◌, map, refl, sym, ap, ◌∙◌, append_assoc}
use Rattle.std.specs.List.{range_with_len}
use Rattle.std.proofs.lemmas.List.FromFn.{map-range_with_len_more}
use Rattle.wh_find_subterm.specs.Clauses.{not_both}
use Rattle.wh_find_subterm.proofs.clauses.add_pairs_with.Goals as goal

pub loop-place-preserved : goal.loop-place-preserved
loop-place-preserved c =
    let first = c.args.first in
    let place = c.loop-place.place in
    let with = not_both first in
    let last = with (first + 1 + place) in
    c.in_ok-push.ensures.ok ∙ ap (λ d. c.loop-place.clauses ++ d ∷ []) c.in_ok-not_both.ensures ∙ ap (λ cs. cs ++ last ∷ []) c.loop-place.invariant
    ∙ append_assoc c.args.clauses.now (map with (range_with_len (first + 1) place)) (last ∷ [])
    ∙ ap (λ cs. c.args.clauses.now ++ cs) (sym (map-range_with_len_more with (first + 1) place (first + 1 + place) refl))
