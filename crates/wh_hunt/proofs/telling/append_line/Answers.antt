use Rattle.std.proofs.Common.{◌++◌, ◌∷◌, [], ap, ◌∙◌}
use Rattle.std.specs.Prelude.{codes}
use Rattle.std.specs.Fmt.{decimal}
use Rattle.wh_hunt.proofs.Lines.{joined_line}
use Rattle.wh_hunt.proofs.telling.append_line.Goals as goal

pub returns : goal.returns
returns c =
    let front = c.in_ok-append.ensures.ok in
    let number = c.in_ok-print_number.ensures ∙ ap (λ t. t ++ decimal c.args.done) front in
    let blank = c.in_ok-push.ensures.ok ∙ ap (λ t. t ++ 32 ∷ []) number in
    let word = c.in_ok-append-2.ensures.ok ∙ ap (λ t. t ++ c.args.word.now) blank in
    c.in_ok-push-2.ensures.ok ∙ ap (λ t. t ++ 10 ∷ []) word
    ∙ joined_line c.args.text.now (codes "hunted loops ") (decimal c.args.done) c.args.word.now
