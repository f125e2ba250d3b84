use Rattle.std.proofs.Common.{◌++◌, ◌∷◌, [], ap, ◌∙◌, append_assoc}
use Rattle.std.specs.Prelude.{codes}
use Rattle.std.specs.Fmt.{decimal}
use Rattle.wh_hunt.proofs.telling.append_count.Goals as goal

pub returns : goal.returns
returns c =
    let number = c.in_ok-print_number.ensures ∙ ap (λ t. t ++ decimal c.args.refused) c.in_ok-append.ensures.ok in
    c.in_ok-push.ensures.ok ∙ ap (λ t. t ++ 10 ∷ []) number
    ∙ append_assoc (c.args.text.now ++ codes "hunted refused ") (decimal c.args.refused) (10 ∷ [])
    ∙ append_assoc c.args.text.now (codes "hunted refused ") (decimal c.args.refused ++ 10 ∷ [])
