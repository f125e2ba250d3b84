use Rattle.std.proofs.Common.{◌∙◌, ap, sym}
use Rattle.wh_text.specs.Erase.{rty, rtys}
use Rattle.wh_read.specs.Held as held
use Rattle.wh_read.specs.Reader as r
use Rattle.wh_read.proofs.HeldLaws.{had_inner}
use Rattle.wh_read.proofs.types.had_atype.Goals as goal

pub returns-in_ok-part : goal.returns-in_ok-part
returns-in_ok-part c =
    λ parts. ap (λ a. r.inside parts (r.behind_atype (held.purpose c.args.purpose) (held.open_type c.args.started) (rty a))) c.in_ok-part.ensures.ok
    ∙ had_inner parts (held.purpose c.args.purpose) (rtys c.args.started.args) c.args.started.outer (rty c.args.part) (sym c.is_empty.ensures ∙ c.if-is_empty.false)
