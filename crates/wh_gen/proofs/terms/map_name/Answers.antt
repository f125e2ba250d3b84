use Rattle.std.proofs.Common.{◌≡◌, ◌∷◌, ◌++◌, [], sym, ap, subst, ◌∙◌, arith}
use Rattle.std.specs.Fmt.{decimal}
use Rattle.wh_text.specs.Words.{IsWord}
use Rattle.wh_gen.specs.Family.{map_name}
use Rattle.wh_gen.proofs.FamilyNames.{map_name_is_word}
use Rattle.wh_gen.proofs.terms.map_name.Goals as goal

pub new-requires : goal.new-requires
new-requires c =
    let bytes : c.as_slice.result.now ≡ map_name c.args.number =
    c.as_slice.ensures ∙ c.in_ok-print_number.ensures ∙ ap (λ bs. bs ++ decimal c.args.number) (c.in_ok-push.ensures.ok ∙ ap (λ bs. bs ++ 109 ∷ []) c.new-bytes.ensures) in
    subst IsWord (sym bytes) (map_name_is_word c.args.number (omega arith))
