use Rattle.std.proofs.Common.{ap, sym, ◌∙◌}
use Rattle.wh_order_inference.specs.Said.{inference, letter}
use Rattle.wh_order_check.proofs.LetterLemmas.{letter_is, only_same, strict_same, strict_other}
use Rattle.wh_order_check.proofs.strict.is_strict_where.Goals as goal

pub returns-in-Same : goal.returns-in-Same
returns-in-Same c = strict_same c.args.asked (inference c.args.line.now) (letter_is c.args.line.now ∙ ap letter c.in-Same.is)

pub returns-in_default : goal.returns-in_default
returns-in_default c =
    strict_other c.args.asked (inference c.args.line.now)
    (λ same. c.in_default.not-Same (only_same _ (sym (letter_is c.args.line.now) ∙ same)))
