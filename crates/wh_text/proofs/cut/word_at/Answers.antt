use Rattle.std.proofs.Common.{◌≡◌, ◌+◌, take, drop, sym, ap, ◌∙◌, subst, rules}
use Rattle.std.proofs.lemmas.Bool.{iff_false}
use Rattle.wh_text.specs.Words.{IsKeyword}
use Rattle.wh_text.specs.Pieces.{StandsAt}
use Rattle.wh_text.specs.declared.token.TokenKind.{TokenKind}
use Rattle.wh_text.proofs.CutLemmas.{word_run, word_fault, keyword_stands, name_stands}
use Rattle.wh_text.proofs.cut.word_at.Goals as goal
use Rattle.wh_text.proofs.cut.word_at.Goals.{then-is_keyword, else-is_keyword}

pub returns-then-length-gt64 : goal.returns-then-length-gt64
returns-then-length-gt64 c =
    let text = c.args.bytes.now in
    let run = word_run text c.split_at.result.1.now c.args.at c.part_run-length.result c.requires.room c.requires.start c.split_at.ensures.back c.part_run-length.ensures.run in
    word_fault text c.args.at c.part_run-length.result run c.if-length-gt64.true

pub returns : goal.returns
returns c =
    let text = c.args.bytes.now in
    let at = c.args.at in
    let n = c.part_run-length.result in
    let run = word_run text c.split_at.result.1.now at n c.requires.room c.requires.start c.split_at.ensures.back c.part_run-length.ensures.run in
    let word : c.split_at-2.result.0.now ≡ take n (drop at text) = c.split_at-2.ensures.front ∙ ap (take n) c.split_at.ensures.back in
    let Stands : TokenKind → Type 0 = λ k. StandsAt text at (record { kind = k; from = at; to = at + n }) in
    let made : Stands c.if-is_keyword.kind = elim c.if-is_keyword.branch [
      | then-is_keyword w ↦ subst Stands (sym w.kind-is) (keyword_stands text at n run c.if-length-gt64.false (subst IsKeyword word (search (rules, c.is_keyword.ensures.0, w.if-is_keyword.true))))
      | else-is_keyword w ↦ subst Stands (sym w.kind-is) (name_stands text at n run c.if-length-gt64.false (λ is. absurd (iff_false c.is_keyword.ensures w.if-is_keyword.false (subst IsKeyword (sym word) is))))
    ] in
    subst (StandsAt text at) (sym c.token_of.ensures) made
