use Rattle.std.proofs.Common.{◌++◌, ◌∙◌, ap, arith, get_or, refl}
use Rattle.std.specs.Fmt.{decimal}
use Rattle.wh_top_replies.specs.Refuting.{numbers_text}
use Rattle.wh_top_replies.proofs.Refutals.{one_number, no_number}
use Rattle.wh_top_replies.proofs.refuting.numbers_line.Goals as goal

pub loop-number-preserved : goal.loop-number-preserved
loop-number-preserved c =
    let n = get_or c.args.numbers.now c.loop-number.number-index 0 in
    one_number c.loop-number.text c.print_number.new.out (c.args.word.now ++ numbers_text c.args.numbers.now) c.args.numbers.now
    c.loop-number.number-index n c.loop-number-test.true refl
    (c.in_ok-print_number.ensures ∙ ap (λ t. t ++ decimal n) c.in_ok-push.ensures.ok) c.loop-number.invariant

pub returns : goal.returns
returns c =
    c.in_ok-push-2.ensures.ok
    ∙ no_number c.loop-number.text (c.args.word.now ++ numbers_text c.args.numbers.now) c.args.numbers.now c.loop-number.number-index
    (omega (arith, c.loop-number-test.false)) c.loop-number.invariant
