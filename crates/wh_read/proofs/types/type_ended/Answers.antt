use Rattle.std.proofs.Common.{[], ap, sym, ◌∙◌}
use Rattle.wh_text.specs.Erase.{rty, rtys}
use Rattle.wh_system_parts.specs.Erase.{rparts}
use Rattle.wh_read.specs.Held as held
use Rattle.wh_read.specs.Reader as r
use Rattle.wh_read.proofs.HeldLaws.{outer_push, paren_wanted}
use Rattle.wh_read.proofs.types.type_ended.Goals as goal

pub returns-in_default-letter : goal.returns-in_default-letter
returns-in_default-letter c =
    let parts = rparts c.args.parts.now in
    let use_for = held.purpose c.args.purpose in
    let rest = c.pop.new.self.items in
    sym (ap (λ os. r.type_ended parts use_for os (rty c.args.whole) (held.letter c.args.letter)) (outer_push [] rest c.args.outer.items c.in-Some.args c.in-Some.ensures.items)
    ∙ paren_wanted parts use_for (rtys c.in-Some.args) (held.types_in [] rest) (rty c.args.whole) c.args.letter c.in_default-letter.not-CloseParen)
