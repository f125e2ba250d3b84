use Rattle.std.proofs.Common.{◌++◌, ◌∷◌, [], sym, ap, ◌∙◌, arith}
use Rattle.std.proofs.lemmas.List.FromFn.{map-range_with_len_more}
use Rattle.wh_gen.specs.RawFamily.{raw_base, raw_map_fun}
use Rattle.wh_gen.proofs.declarations.funs.Goals as goal

pub loop-number-preserved : goal.loop-number-preserved
loop-number-preserved c =
    let n = c.loop-number.number in
    c.in_ok-add_map.ensures ∙ ap (λ fs. fs ++ raw_map_fun n ∷ []) c.loop-number.invariant ∙ ap (λ fs. raw_base ++ fs) (sym (map-range_with_len_more raw_map_fun 0 n n (omega arith)))
