use Rattle.std.proofs.Common.{sym, ◌∙◌, subst, inl, inr}
use Rattle.wh_text.specs.Pieces.{StandsAt}
use Rattle.wh_text.proofs.CutLemmas.{space_gap, sign_stands, nothing_fault}
use Rattle.wh_text.proofs.cut.piece_at.Goals as goal

pub returns-then-is_space : goal.returns-then-is_space
returns-then-is_space c =
    space_gap c.args.bytes.now c.args.at c.requires.room (sym c.is_space.ensures ∙ c.if-is_space.true)

pub returns-then-is_sign : goal.returns-then-is_sign
returns-then-is_sign c =
    subst (StandsAt c.args.bytes.now c.args.at) (sym c.token_of.ensures) (sign_stands c.args.bytes.now c.args.at c.requires.room (sym c.is_sign.ensures ∙ c.if-is_sign.true))

pub returns : goal.returns
returns c =
    nothing_fault c.args.bytes.now c.args.at c.requires.room (record {
      space = sym c.is_space.ensures ∙ c.if-is_space.false;
      start = sym c.is_start.ensures ∙ c.if-is_start.false;
      sign = sym c.is_sign.ensures ∙ c.if-is_sign.false;
      arrow = elim [ inl e ↦ c.if-first-eq45.false e | inr e ↦ c.if-first-eq61.false e ];
      dollar = c.if-first-eq36.false;
      percent = c.if-first-eq37.false;
      comment = c.if-first-eq35.false;
    })
