use Rattle.std.proofs.Common.{◌+◌, List, ℕ, take, drop, refl, sym, ap, ◌∙◌, subst, inl, arith}
use Rattle.wh_text.specs.Chars.{is_digit, AllPass}
use Rattle.wh_text.specs.Words.{IsNumeral}
use Rattle.wh_text.specs.Tokens.{dollar, percent, BadDigits}
use Rattle.wh_text.specs.Pieces.{StandsAt}
use Rattle.wh_text.specs.declared.token.TokenKind.{TokenKind}
use Rattle.wh_text.specs.declared.token.TokenKind.TheVariants as code
use Rattle.wh_text.proofs.CutLemmas.{digits_run, marked, percent_marked, number_stands, digits_fault, mark_fault}
use Rattle.wh_text.proofs.cut.number_at.Goals as goal
use Rattle.wh_text.proofs.cut.number_at.Goals.{then-bytes-at-eq36, else-bytes-at-eq36}

pub returns-then-length-eq0 : goal.returns-then-length-eq0
returns-then-length-eq0 c =
    let text = c.args.bytes.now in
    let run = digits_run text c.split_at.result.1.now c.args.at c.digit_run-length.result c.requires.room c.split_at.ensures.back c.digit_run-length.ensures.run in
    let mark = marked _ c.requires.mark in
    mark_fault text c.args.at c.digit_run-length.result mark.0 c.requires.room run c.if-length-eq0.true mark.1

pub numeral-requires : goal.numeral-requires
numeral-requires c =
    let text = c.args.bytes.now in
    let run = digits_run text c.split_at.result.1.now c.args.at c.digit_run-length.result c.requires.room c.split_at.ensures.back c.digit_run-length.ensures.run in
    let digits = c.split_at-2.ensures.front ∙ ap (take c.digit_run-length.result) c.split_at.ensures.back in
    subst (AllPass is_digit) (sym digits) run.passes

pub returns-in_default : goal.returns-in_default
returns-in_default c =
    let text = c.args.bytes.now in
    let run = digits_run text c.split_at.result.1.now c.args.at c.digit_run-length.result c.requires.room c.split_at.ensures.back c.digit_run-length.ensures.run in
    let mark = marked _ c.requires.mark in
    let digits = c.split_at-2.ensures.front ∙ ap (take c.digit_run-length.result) c.split_at.ensures.back in
    digits_fault text c.args.at c.digit_run-length.result mark.0 c.requires.room run (omega arith) mark.1 (subst BadDigits digits c.in_default.ensures)

pub returns : goal.returns
returns c =
    let text = c.args.bytes.now in
    let at = c.args.at in
    let m = c.digit_run-length.result in
    let n = c.in-Some.number in
    let run = digits_run text c.split_at.result.1.now at m c.requires.room c.split_at.ensures.back c.digit_run-length.ensures.run in
    let digits = c.split_at-2.ensures.front ∙ ap (take m) c.split_at.ensures.back in
    let is : IsNumeral (take m (drop (at + 1) text)) n = subst (λ (ds : List ℕ). IsNumeral ds n) digits c.in-Some.ensures in
    let Stands : TokenKind → Type 0 = λ k. StandsAt text at (record { kind = k; from = at; to = at + 1 + m }) in
    let made : Stands c.if-bytes-at-eq36.kind = elim c.if-bytes-at-eq36.branch [
      | then-bytes-at-eq36 w ↦ subst Stands (sym w.kind-is) (number_stands text at m n (code.Dollar n) dollar c.requires.room run (inl (w.if-bytes-at-eq36.true, refl)) is (λ bytes. refl))
      | else-bytes-at-eq36 w ↦ subst Stands (sym w.kind-is) (number_stands text at m n (code.Percent n) percent c.requires.room run (percent_marked _ c.requires.mark w.if-bytes-at-eq36.false) is (λ bytes. refl))
    ] in
    subst (StandsAt text at) (sym c.token_of.ensures) made
