use Rattle.std.proofs.Common.{[], ap, ◌∙◌}
use Rattle.wh_text.specs.Erase.{rtys}
use Rattle.wh_read.specs.declared.place.Purpose.{Purpose}
use Rattle.wh_read.specs.Held as held
use Rattle.wh_read.specs.Reader as r
use Rattle.wh_read.proofs.HeldLaws.{no_bracket, step_along}
use Rattle.wh_read.proofs.declarations.behind_colon.Goals as goal

pub returns-in_ok-purpose-in_default : goal.returns-in_ok-purpose-in_default
returns-in_ok-purpose-in_default c =
    let m = held.meta c.args.meta in
    let l = c.args.letter in
    step_along c.at_atype.result
    (λ parts. r.at_atype parts (held.purpose c.in_ok-purpose-in_default.purpose) (held.open_type c.in_ok-started-in_default.started) (held.letter l) c.args.at)
    (λ parts. r.behind_colon parts m (held.letter c.args.letter) c.args.at)
    (λ parts. ap (λ (p : Purpose). r.at_atype parts (held.purpose_of p) (held.open_type c.in_ok-started-in_default.started) (held.letter l) c.args.at) c.in_ok-purpose-in_default.ensures.ok
    ∙ ap (λ ts. r.at_atype parts (r.of_meta m (rtys ts)) (held.open_type c.in_ok-started-in_default.started) (held.letter l) c.args.at) c.new-args.ensures
    ∙ ap (λ t. r.at_atype parts (r.of_meta m (rtys [])) t (held.letter l) c.args.at) c.in_ok-started-in_default.ensures
    ∙ no_bracket parts m c.args.letter c.args.at c.in_default.not-OpenBracket)
    c.at_atype.ensures
